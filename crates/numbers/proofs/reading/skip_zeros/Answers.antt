-- `reading::skip_zeros` meets its contract: the digits behind the zeros come to the same value. Assumes nothing.
use Rattle.std.proofs.Common.{◌≡◌, ◌∙◌, ap, sym, rules, ℕ, Option}
use borrow.Author.Tests.{tests}
use lib.ListN.{length, drop}
use Rattle.std.specs.List.{position, position_or_len}
use Rattle.std.specs.Option.{unwrap_or}
use Rattle.std.proofs.lemmas.List.{take_rest}
use Rattle.std.proofs.lemmas.Iterator.{YieldsList-from_slice}
use Rattle.std.proofs.lemmas.Iterator.Search.{position_from_yields_List}
use Rattle.model.specs.Numbers.{digits_from}
use Rattle.text.proofs.Places.{place-found}
use Rattle.numbers.proofs.ReadingLaws.{no-zero, zeros-passed}
use Rattle.numbers.proofs.reading.skip_zeros.Goals as goal

pub returns : goal.returns
returns c =
    let w = c.args.w.now in
    let found : c.position.result ≡ position no-zero w = position_from_yields_List no-zero _ _ c.position.result c.position.ensures.ran (YieldsList-from_slice w cc) (λ x b q k. search (rules, tests)) in
    let zeros : c.unwrap_or-zeros.result ≡ position_or_len no-zero w = c.unwrap_or-zeros.ensures ∙ ap (λ (o : Option ℕ). unwrap_or o (length w)) found ∙ place-found no-zero w in
    zeros-passed w ∙ ap (λ (i : ℕ). digits_from 0 (drop i w)) (sym zeros) ∙ ap (digits_from 0) (sym (take_rest w _))
