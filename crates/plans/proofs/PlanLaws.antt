-- Plans by the tests that the code makes. Assumes nothing.
use Prim.Native.Nat.{ℕ, ◌+◌, ◌≤◌, ◌<◌}
use mathlib.Core.List.{List, [], ◌∷◌}
use mathlib.Core.Path.{◌≡◌, refl, sym, ap, ◌∙◌}
use native.Mathlib.Omega.{arith}
use lib.ListN.{length, drop, drop_of_length-le}
use Rattle.std.proofs.Common.{None}
use lib.Seq.{drop-drop}
use Rattle.model.specs.Arithmetic.{Answer}
use Rattle.model.specs.Numbers.{number}
use Rattle.model.specs.Step.{blanks_of, token_of, input_number, input_answer}
use Rattle.operands.specs.declared.Core.{Core}
use Rattle.text.proofs.Parts.{part_length}
use Rattle.text.specs.Parts.{part}
use Rattle.text.specs.Tokens.{NextToken, TokenFrom}
use Rattle.plans.specs.Plans.{failed_plan, answered_plan, moved_to, input_plan}

-- IN
answer-some : (m : ℕ) (token : List ℕ) → 1 ≤ length token → input_number m (number token) ≡ input_answer m token
answer-some m [] h = absurd (omega arith)
answer-some m (b ∷ s) h = refl

module _ (w m : ℕ) (c : Core) (bytes : List ℕ) where
  pub input_none : TokenFrom bytes c.place None → failed_plan 3 c ≡ input_plan w m c bytes
  unfolding input_plan token_of
  input_none e =
      let rest = drop c.place bytes in
      let d : drop (blanks_of rest) rest ≡ [] = drop_of_length-le rest (omega (arith, e)) in
      rw d refl

  pub input-some : {start end : ℕ} → NextToken bytes c.place start end × (start < end) → {a : Answer} → a ≡ input_number m (number (part start end bytes)) →
      answered_plan w (moved_to end c) c a ≡ input_plan w m c bytes
  unfolding input_plan
  input-some {start} {end} (n, some) {a} is =
      let rest = drop c.place bytes in
      let d : drop (blanks_of rest) rest ≡ drop start bytes =
      drop-drop (blanks_of rest) c.place bytes ∙ ap (λ (i : ℕ). drop i bytes) (sym n.blanks) in
      let t : token_of (drop (blanks_of rest) rest) ≡ part start end bytes = ap token_of d ∙ sym n.token in
      let size = part_length start end bytes n.high in
      let e : c.place + blanks_of rest + length (part start end bytes) ≡ end = omega (arith, n.blanks, n.ordered, size) in
      rw (t, e) (ap (answered_plan w (moved_to end c) c) (is ∙ answer-some m (part start end bytes) (omega (arith, some, size))))
