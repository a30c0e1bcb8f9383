-- REQUEST E1 of calls from C: of every call of tak_grant that returned 0, on any slices, in a list or not. Assumes nothing.
use mathlib.Core.Path.{◌≡◌, refl, sym, ap, ◌∙◌}
use lib.Dec.{eqb}
use lib.ListN.{length}
use borrow.Author.Tests.{eq-eqb}
use Rattle.model.proofs.GrantKeeps.{grant-deepest}
use Rattle.model.proofs.Refusals.{grant-number}
use Rattle.model.specs.Calls.{granted, outcome_number}
use Rattle.model.specs.Grants.{Call}
use Rattle.model.specs.Step.{Environment}
use Rattle.tak.specs.Calls.{Slices, held_in, GrantCall, grant_replied, tak_grant}
use Rattle.tak.specs.Lists.{CallKeepsDeepest}
use Rattle.tak.specs.Records.{at, record_after, record_length}
use Rattle.tak.proofs.CallLaws.{sized}

pub call-deepest : (e : Environment) (s : Slices) (c : Call) (x : GrantCall) → tak_grant e s c ≡ x → x.number ≡ 0 → CallKeepsDeepest e s x
unfolding tak_grant record_after
call-deepest e s c x is accepted =
    let g = granted e (held_in s) c in
    let replied : x ≡ grant_replied g s.fields =
    sym is ∙ sized (λ (y : GrantCall). y.number) (eqb (length s.fields) record_length) (grant_replied g s.fields) _ refl (ap (λ (y : GrantCall). y.number) is ∙ accepted) in
    let number : outcome_number g.reply.outcome ≡ 0 = ap (λ (y : GrantCall). y.number) (sym replied) ∙ accepted in
    record {
      given = g;
      keeps = grant-deepest e (held_in s) c (sym (grant-number e (held_in s) c) ∙ number);
      answered = replied;
      figure = ap (λ (y : GrantCall). at y.slices.fields 11) replied ∙ rw (eq-eqb _ 0 number);
    }
