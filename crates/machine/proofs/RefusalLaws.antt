-- The refusals of start and grant, check by check. Assumes nothing.
use Prim.Native.Nat.{ℕ, ◌*◌, ◌≤◌, ◌<◌}
use mathlib.Core.Bool.{Bool, true, false}
use mathlib.Core.List.{List, [], ◌∷◌, ◌++◌, append_assoc}
use mathlib.Core.Path.{◌≡◌, refl, sym, ap, ◌∙◌}
use lib.Dec.{eqb, leb}
use lib.IntN.{ℤ}
use lib.ListN.{length}
use borrow.Author.Tests.{eq-eqb, ne_eqb, le-leb, lt-leb}
use Rattle.model.proofs.Fits.{all_fit, parameters-numbered, shape-numbered, refusal-first, refusal-later, start-numbered, start-accepted}
use Rattle.model.proofs.GrantKeeps.{record-sound}
use Rattle.model.specs.Calls.{Held, as_call, shape_checks, memory_fits, memory_check, image_check, start_checks, record_fits, grant_checks, grant_refusal, account_of}
use Rattle.model.specs.Grants.{Account}
use Rattle.model.specs.Images.{image_fits}
use Rattle.model.specs.Load.{length_check}
use Rattle.model.specs.Parameters.{Check, ◌unless◌, refusal_of, parameter_checks, max_input, max_granted, Fit}
use Rattle.model.specs.Step.{Environment, environment_of, Memory, State}
use Rattle.model.specs.declared.Parameters.{Parameters}
use Rattle.machine.specs.Checks.{cycles_fit}

-- START. The parameters and the image's length.
module _ (p : Parameters) (image : List ℕ) where
  abbrev pub shape_refusal : ℕ
  shape_refusal = refusal_of (shape_checks p image)

  pub by-parameters : {r : ℕ} → r ≡ refusal_of (parameter_checks p) → ¬ (r ≡ 0) → r ≡ shape_refusal
  by-parameters e h = e ∙ sym (refusal-first (parameter_checks p) _ (λ q. h (e ∙ q)))

  module _ (fit : Fit p) where
    behind : shape_refusal ≡ refusal_of (length_check p image ∷ [])
    behind = refusal-later (parameter_checks p) _ (all_fit (parameter_checks p) (parameters-numbered p) fit)

    pub by_length : ¬ (length image ≡ 4 * p.t) → 6 ≡ shape_refusal
    by_length h = sym (behind ∙ rw (ne_eqb _ _ h))

    pub shape-passed : length image ≡ 4 * p.t → 0 ≡ shape_refusal
    shape-passed h = sym (behind ∙ rw (eq-eqb _ _ h))

-- The memory's lengths.
module _ (p : Parameters) (m : Memory) where
  pub by-registers : ¬ (length m.registers ≡ p.n) → false ≡ memory_fits p m
  by-registers h = rw (ne_eqb _ _ h)

  pub by-cells : length m.registers ≡ p.n → {b : Bool} → b ≡ eqb (length m.cells) p.s → b ≡ memory_fits p m
  by-cells h q = rw (eq-eqb _ _ h) q

-- All of start's checks.
module _ (e : Environment) (m : Memory) where
  abbrev p : Parameters
  p = e.parameters

  abbrev shape : List Check
  shape = shape_checks p e.image

  abbrev pub start_refusal : ℕ
  start_refusal = refusal_of (start_checks e m)

  split : start_refusal ≡ refusal_of (shape ++ (memory_check p m ∷ image_check p e.image ∷ []))
  unfolding start_checks
  split = ap refusal_of (append_assoc shape _ _)

  pub by_shape : {r : ℕ} → r ≡ shape_refusal p e.image → ¬ (r ≡ 0) → r ≡ start_refusal
  by_shape q h = q ∙ sym (split ∙ refusal-first shape _ (λ z. h (q ∙ z)))

  module _ (passed : shape_refusal p e.image ≡ 0) where
    behind-shape : start_refusal ≡ refusal_of (memory_check p m ∷ image_check p e.image ∷ [])
    behind-shape = split ∙ refusal-later shape _ (all_fit shape (shape-numbered p e.image) passed)

    pub by-memory : memory_fits p m ≡ false → 9 ≡ start_refusal
    by-memory h = sym (behind-shape ∙ rw h)

    pub by-image : memory_fits p m ≡ true → image_fits p e.image ≡ false → 10 ≡ start_refusal
    by-image h i = sym (behind-shape ∙ rw (h, i))

    pub start-passed : memory_fits p m ≡ true → image_fits p e.image ≡ true → 0 ≡ start_refusal
    start-passed h i = sym (behind-shape ∙ rw (h, i))

-- They do not look at the input.
pub input_unseen : (e : Environment) (m : Memory) → start_refusal (environment_of e.parameters e.image []) m ≡ start_refusal e m
unfolding start_checks
input_unseen e m = refl

-- GRANT
module _ (e : Environment) (held : Held) (cycles : ℕ) where
  abbrev account : Account State
  account = account_of held

  abbrev start : ℕ
  start = start_refusal e held.memory

  -- The output slice does not matter.
  abbrev Gives : ℕ → Type 0
  Gives n = (slice : List ℤ) → n ≡ grant_refusal e account (as_call cycles slice)

  abbrev record_and_cycles : List Check
  record_and_cycles =
      15 unless (record_fits e account)
      ∷ 16 unless (leb (length e.input) max_input)
      ∷ 17 unless (cycles_fit held.rec.granted cycles)
      ∷ []

  pub by-start : {n : ℕ} → n ≡ start → ¬ (n ≡ 0) → Gives n
  unfolding grant_refusal grant_checks
  by-start q h slice = q ∙ sym (refusal-first (start_checks e held.memory) record_and_cycles (λ z. h (q ∙ z)))

  module _ (passed : start ≡ 0) where
    behind-start : {n : ℕ} → refusal_of record_and_cycles ≡ n → Gives n
    unfolding grant_refusal grant_checks
    behind-start q slice =
        let c = start_checks e held.memory in
        sym (refusal-later c record_and_cycles (all_fit c (start-numbered e held.memory) passed) ∙ q)

    pub by_record : record_fits e account ≡ false → Gives 15
    by_record h = behind-start (rw h)

    module _ (fits : record_fits e account ≡ true) where
      pub granted-limit : held.rec.granted ≤ max_granted
      granted-limit = (record-sound e account fits (start-accepted e held.memory passed).sized).granted

      pub by-input : max_input < length e.input → Gives 16
      by-input h = behind-start (rw (fits, lt-leb _ _ h))

      module _ (short : length e.input ≤ max_input) where
        pub by-cycles : cycles_fit held.rec.granted cycles ≡ false → Gives 17
        by-cycles h = behind-start (rw (fits, le-leb _ _ short, h))

        pub grant-passed : cycles_fit held.rec.granted cycles ≡ true → Gives 0
        grant-passed h = behind-start (rw (fits, le-leb _ _ short, h))
