-- What passed checks say: of the parameters (1 to 5), of start and of grant. Assumes nothing.
use Prim.Native.Nat.{ℕ, ◌+◌, ◌*◌, ◌-◌, ◌^◌, ◌≤◌}
use mathlib.Core.Path.{◌≡◌, refl, sym, ◌∙◌}
use mathlib.Core.Bool.{Bool, true, false, not, ◌&&◌, cond, and-eq-true_iff, and_assoc}
use mathlib.Core.List.{List, [], ◌∷◌, ◌++◌}
use mathlib.Core.Logic.{◌↔◌}
use native.Mathlib.Omega.{arith}
use lib.Dec.{eqb, leb}
use lib.ListN.{length}
use lib.Pow.{pow_mono}
use borrow.Author.Tests.{leb-true, eqb-true}
use Rattle.model.specs.declared.Parameters.{Parameters}
use Rattle.model.specs.Parameters.{Check, ◌unless◌, refusal_of, all_pass, between, limit, max_registers, max_cells, max_instructions, max_input, max_grant, max_granted, parameter_checks, Fit}
use Rattle.model.specs.Images.{image_fits}
use Rattle.model.specs.Grants.{Account, Call}
use Rattle.model.specs.Step.{Environment, Memory, State}
use Rattle.model.specs.Calls.{shape_checks, memory_fits, memory_of, size_checks, start_checks, record_fits, grant_checks, grant_refusal}
use Rattle.std.proofs.lemmas.Grind.{common_steps}
use Rattle.std.proofs.Common.{rules}

-- Two tests that passed, and back.
pub both : (a b : Bool) → (a && b) ≡ true → (a ≡ true) × (b ≡ true)
both a b h = (and-eq-true_iff a b).0 h

pub and_both : {a b : Bool} → a ≡ true → b ≡ true → (a && b) ≡ true
and_both {a} {b} h k = (and-eq-true_iff a b).1 (h, k)

-- What holds of both parts of a choice holds of it.
pub by_cond : {A : Type 0} (P : A → Type 0) (b : Bool) (x y : A) → (b ≡ true → P x) → (b ≡ false → P y) → P (cond b x y)
by_cond P true x y f g = f refl
by_cond P false x y f g = g refl

pub is-between : (low high x : ℕ) → between low high x ≡ true → (low ≤ x) × (x ≤ high)
is-between low high x h = search rules

-- A LIST OF TESTS, each of which passes.
abbrev pub AllTrue : List Bool → Type 0
AllTrue [] = Unit {0}
AllTrue (b ∷ bs) = (b ≡ true) × AllTrue bs

pub all_true : (bs : List Bool) → all_pass bs ≡ true → AllTrue bs
all_true [] h = tt
all_true (b ∷ bs) h = let k = both b (all_pass bs) h in (k.0, all_true bs k.1)

pub all_pass_lem : (bs : List Bool) → AllTrue bs → all_pass bs ≡ true
all_pass_lem [] t = refl
all_pass_lem (b ∷ bs) t = and_both t.0 (all_pass_lem bs t.1)

pub pass_append : (xs ys : List Bool) → all_pass (xs ++ ys) ≡ (all_pass xs && all_pass ys)
pass_append [] ys = refl
pass_append (x ∷ xs) ys = rw (pass_append xs ys) (sym (and_assoc x (all_pass xs) (all_pass ys)))

-- A LIST OF CHECKS
-- No check has the number 0, which says that there is no refusal.
abbrev pub Numbered : List Check → Type 0
Numbered [] = Unit {0}
Numbered (c ∷ cs) = (1 ≤ c.number) × Numbered cs

abbrev pub AllFit : List Check → Type 0
AllFit [] = Unit {0}
AllFit (c ∷ cs) = (c.fit ≡ true) × AllFit cs

-- A check that passed, and those after it.
check-fit : (b : Bool) (x n : ℕ) → 1 ≤ n → cond b x n ≡ 0 → (b ≡ true) × (x ≡ 0)
check-fit true x n l h = (refl, h)
check-fit false x n l h = absurd (omega arith)

pub all_fit : (cs : List Check) → Numbered cs → refusal_of cs ≡ 0 → AllFit cs
all_fit [] n h = tt
all_fit (c ∷ cs) n h =
    let k = check-fit c.fit (refusal_of cs) c.number n.0 h in
    (k.0, all_fit cs n.1 k.1)

pub no-refusal : (cs : List Check) → AllFit cs → refusal_of cs ≡ 0
no-refusal [] f = refl
no-refusal (c ∷ cs) f = rw f.0 (no-refusal cs f.1)

-- The first checks refuse, or those behind them decide.
pub refusal-first : (xs ys : List Check) → ¬ (refusal_of xs ≡ 0) → refusal_of (xs ++ ys) ≡ refusal_of xs
refusal-first [] ys h = absurd (h refl)
refusal-first (x ∷ xs) ys h = go x.fit h (refusal-first xs ys)
  where
    go : (b : Bool) → ¬ (cond b (refusal_of xs) x.number ≡ 0) → (¬ (refusal_of xs ≡ 0) → refusal_of (xs ++ ys) ≡ refusal_of xs) →
        cond b (refusal_of (xs ++ ys)) x.number ≡ cond b (refusal_of xs) x.number
    go true h ih = ih h
    go false h ih = refl

pub refusal-later : (xs ys : List Check) → AllFit xs → refusal_of (xs ++ ys) ≡ refusal_of ys
refusal-later [] ys f = refl
refusal-later (x ∷ xs) ys f = rw f.0 (refusal-later xs ys f.1)

pub fit-left : (xs ys : List Check) → AllFit (xs ++ ys) → AllFit xs
fit-left [] ys f = tt
fit-left (x ∷ xs) ys f = (f.0, fit-left xs ys f.1)

pub fit_right : (xs ys : List Check) → AllFit (xs ++ ys) → AllFit ys
fit_right [] ys f = f
fit_right (x ∷ xs) ys f = fit_right xs ys f.1

pub numbered_append : (xs ys : List Check) → Numbered xs → Numbered ys → Numbered (xs ++ ys)
numbered_append [] ys n k = k
numbered_append (x ∷ xs) ys n k = (n.0, numbered_append xs ys n.1 k)

-- No check has the number n.
abbrev pub lacks : ℕ → List Check → Bool
lacks n [] = true
lacks n (c ∷ cs) = not (eqb c.number n) && lacks n cs

other-number : (m n : ℕ) → not (eqb m n) ≡ true → ¬ (m ≡ n)
other-number m n h e = search rules

not-given : (n : ℕ) (cs : List Check) → 1 ≤ n → lacks n cs ≡ true → ¬ (refusal_of cs ≡ n)
not-given n [] l h e = omega arith
not-given n (c ∷ cs) l h e = go c.fit e (not-given n cs l k.1)
  where
    k : (not (eqb c.number n) ≡ true) × (lacks n cs ≡ true)
    k = both (not (eqb c.number n)) (lacks n cs) h

    go : (b : Bool) → cond b (refusal_of cs) c.number ≡ n → ¬ (refusal_of cs ≡ n) → ⊥
    go true e ih = ih e
    go false e ih = other-number c.number n k.0 e

-- A number that one check alone has is given exactly where the checks before that one pass and it does not.
module _ (n : ℕ) (b : Bool) (later : List Check) (l : 1 ≤ n) (after : lacks n later ≡ true) where
  given : (earlier : List Check) → lacks n earlier ≡ true → refusal_of (earlier ++ (n unless b ∷ later)) ≡ n → AllFit earlier × (b ≡ false)
  given [] h e = (tt, go b e)
    where
      go : (f : Bool) → cond f (refusal_of later) n ≡ n → f ≡ false
      go true e = absurd (not-given n later l after e)
      go false e = refl
  given (c ∷ cs) h e = go c.fit refl e (given cs k.1)
    where
      k : (not (eqb c.number n) ≡ true) × (lacks n cs ≡ true)
      k = both (not (eqb c.number n)) (lacks n cs) h

      go : (f : Bool) → c.fit ≡ f → cond f (refusal_of (cs ++ (n unless b ∷ later))) c.number ≡ n →
          (refusal_of (cs ++ (n unless b ∷ later)) ≡ n → AllFit cs × (b ≡ false)) → AllFit (c ∷ cs) × (b ≡ false)
      go true q e ih = let t = ih e in ((q, t.0), t.1)
      go false q e ih = absurd (other-number c.number n k.0 e)

  pub only-number : (earlier : List Check) → Numbered earlier → lacks n earlier ≡ true →
      (refusal_of (earlier ++ (n unless b ∷ later)) ≡ n) ↔ ((refusal_of earlier ≡ 0) × (b ≡ false))
  only-number earlier numbered before =
      (λ e. (let t = given earlier before e in (no-refusal earlier t.0, t.1)), λ t. refusal-later earlier _ (all_fit earlier numbered t.0) ∙ rw t.1)

-- THE PARAMETERS
pub record Limits (p : Parameters) : Type 0 where
  pub k-low : 8 ≤ p.k
  pub k-high : p.k ≤ 30
  pub n-low : 1 ≤ p.n
  pub n-high : p.n ≤ max_registers
  pub s-low : 1 ≤ p.s
  pub s-high : p.s ≤ max_cells
  pub s-value : p.s ≤ limit p.k - 1
  pub b-high : p.b ≤ p.s
  pub t-low : 1 ≤ p.t
  pub t-high : p.t ≤ max_instructions
  pub t-value : p.t ≤ limit p.k - 1

pub parameters-numbered : (p : Parameters) → Numbered (parameter_checks p)
unfolding parameter_checks
parameters-numbered p = omega arith

-- A count of cells, which a value can hold.
counted : (most m x : ℕ) → (between 1 most x && leb x (m - 1)) ≡ true → (1 ≤ x) × (x ≤ most) × (x ≤ m - 1)
counted most m x h = search rules

pub limits : (p : Parameters) → Fit p → Limits p
unfolding parameter_checks
limits p h = grind (arith, common_steps)

-- M is 128 to 2^29, and twice M is 2^K.
pub limit-low : {k : ℕ} → 8 ≤ k → 128 ≤ limit k
limit-low {k} h = pow_mono {i = 7} {j = k - 1} (omega arith)

pub limit-high : {k : ℕ} → k ≤ 30 → limit k ≤ 2 ^ 29
limit-high {k} h = pow_mono {i = k - 1} {j = 29} (omega arith)

pub limit-double : {k : ℕ} → 1 ≤ k → 2 * limit k ≡ 2 ^ k
limit-double {k} h = grind (arith, common_steps)

-- START
-- The lengths of the memory are the parameters'.
pub record Sized (p : Parameters) (m : Memory) : Type 0 where
  pub register-count : length m.registers ≡ p.n
  pub cell-count : length m.cells ≡ p.s

pub record StartFits (e : Environment) (m : Memory) : Type 0 where
  pub fit : Fit e.parameters
  pub image-length : length e.image ≡ 4 * e.parameters.t
  pub sized : Sized e.parameters m
  pub image-fits : image_fits e.parameters e.image ≡ true

module _ (p : Parameters) (image : List ℕ) where
  pub shape-numbered : Numbered (shape_checks p image)
  shape-numbered = numbered_append (parameter_checks p) _ (parameters-numbered p) (omega arith)

  pub shape-fit : AllFit (shape_checks p image) → Fit p × (length image ≡ 4 * p.t)
  shape-fit f =
      let g = fit_right (parameter_checks p) _ f in
      (no-refusal (parameter_checks p) (fit-left (parameter_checks p) _ f), eqb-true (length image) (4 * p.t) g.0)

pub memory-sized : (p : Parameters) (m : Memory) → memory_fits p m ≡ true → Sized p m
memory-sized p m h = search rules

module _ (e : Environment) (m : Memory) where
  abbrev p : Parameters
  p = e.parameters

  abbrev shape : List Check
  shape = shape_checks p e.image

  abbrev sizes : List Check
  sizes = size_checks e m

  pub sizes-numbered : Numbered sizes
  sizes-numbered = numbered_append shape _ (shape-numbered p e.image) (omega arith)

  -- 10 is not among them.
  pub sizes_lack : lacks 10 sizes ≡ true
  unfolding parameter_checks
  sizes_lack = refl

  pub sizes-fit : AllFit sizes → Fit p × (length e.image ≡ 4 * p.t) × Sized p m
  sizes-fit f =
      let s = shape-fit p e.image (fit-left shape _ f) in
      (s.0, s.1, memory-sized p m (fit_right shape _ f).0)

  pub start-numbered : Numbered (start_checks e m)
  unfolding start_checks
  start-numbered = numbered_append sizes _ sizes-numbered (omega arith)

  pub start-fit : AllFit (start_checks e m) → StartFits e m
  unfolding start_checks
  start-fit f =
      let s = sizes-fit (fit-left sizes _ f) in
      record { fit = s.0; image-length = s.1; sized = s.2; image-fits = (fit_right sizes _ f).0 }

  pub start-accepted : refusal_of (start_checks e m) ≡ 0 → StartFits e m
  start-accepted h = start-fit (all_fit (start_checks e m) start-numbered h)

-- GRANT
pub record GrantFits (e : Environment) (a : Account State) (c : Call) : Type 0 where
  pub start : StartFits e (memory_of a.state)
  pub record-fits : record_fits e a ≡ true
  pub input-length : length e.input ≤ max_input
  pub cycles : c.cycles ≤ max_grant
  pub granted : a.granted + c.cycles ≤ max_granted

abbrev of_start : Environment → Account State → List Check
of_start e a = start_checks e (memory_of a.state)

module _ (e : Environment) (a : Account State) (c : Call) where
  pub grant-numbered : Numbered (grant_checks e a c)
  unfolding grant_checks
  grant-numbered = numbered_append (of_start e a) _ (start-numbered e (memory_of a.state)) (omega arith)

  grant-fit : AllFit (grant_checks e a c) → GrantFits e a c
  unfolding grant_checks
  grant-fit f =
      let g = fit_right (of_start e a) _ f in
      let k = both (leb c.cycles max_grant) (leb (a.granted + c.cycles) max_granted) g.1.1.0 in
      record {
        start = start-fit e (memory_of a.state) (fit-left (of_start e a) _ f);
        record-fits = g.0;
        input-length = leb-true (length e.input) max_input g.1.0;
        cycles = leb-true c.cycles max_grant k.0;
        granted = leb-true (a.granted + c.cycles) max_granted k.1;
      }

  pub grant-accepted : grant_refusal e a c ≡ 0 → GrantFits e a c
  unfolding grant_refusal
  grant-accepted h = grant-fit (all_fit (grant_checks e a c) grant-numbered h)
