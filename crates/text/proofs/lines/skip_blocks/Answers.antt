-- `lines::skip_blocks` meets its contract. Assumes nothing.
use Rattle.std.proofs.Common.{◌≡◌, ◌∙◌, ◌+◌, ◌*◌, ◌/◌, ap, sym, rules, ℕ, Option, List, arith}
use borrow.Author.Tests.{tests}
use lib.ListN.{length, drop}
use Rattle.std.specs.List.{position, position_or_len}
use Rattle.std.specs.Option.{unwrap_or}
use Rattle.std.proofs.lemmas.Iterator.Search.{position_from_yields_List}
use Rattle.text.specs.Lines.{is_line_feed}
use Rattle.text.proofs.Places.{place-found}
use Rattle.text.proofs.Blocks.{blocks, length-blocks, blocks-shown, blocks-passed, has-feed}
use Rattle.text.proofs.lines.skip_blocks.Goals as goal

pub returns-clause-same : goal.returns-clause-same
returns-clause-same c =
    let t : List ℕ = c.args.t.now in
    let n : ℕ = length t / 8 in
    let found : c.position-blocks.result ≡ position has-feed (blocks n t) = position_from_yields_List has-feed _ _ c.position-blocks.result c.position-blocks.ensures.ran (blocks-shown t c.chunks_exact.ensures.rest c.chunks_exact.ensures.size) (λ x b q k. search (rules, tests)) in
    let whole : c.unwrap_or.result ≡ position_or_len has-feed (blocks n t) =
    c.unwrap_or.ensures
    ∙ ap (λ (o : Option ℕ). unwrap_or o n) found
    ∙ ap (unwrap_or (position has-feed (blocks n t))) (sym (length-blocks n t))
    ∙ place-found has-feed (blocks n t) in
    ap (λ (i : ℕ). 8 * i + position_or_len is_line_feed (drop (8 * i) t)) whole ∙ blocks-passed n t (omega arith)
