-- The calls of `open` and `run_grant` as the program makes them, and the bytes that it writes: the lines of each call, one behind the other.
use Rattle.std.specs.Prelude.{ℕ, Some, None, List, ◌++◌, ◌≡◌, ℤ, take}
use Rattle.model.specs.Calls.{Held, as_call, environment_for}
use Rattle.model.specs.Grants.{Call}
use Rattle.model.specs.Step.{Environment, environment_of, Memory}
use Rattle.model.specs.declared.Parameters.{Parameters}
use Rattle.session.specs.Sessions.{OpenIs, ReportIs}
use Rattle.session.specs.declared.Report.{Report}

-- The record and memory after a call.
abbrev held_by : Report → Memory → Held
held_by r m = record { rec = r.rec; memory = m }

-- Calls of `run_grant`, each with the record, its parameters, the cycles and the buffers that the call before it left, until one says that none follows.
pub data Grants (e : Environment) : Held → Call → (lines out : List ℕ) → Type 0 where
  last : {h : Held} {c : Call} {memory₁ : Memory} {values₁ : List ℤ} {lines lines₁ : List ℕ} {r : Report} →
      ReportIs (environment_for e h) h c lines r memory₁ values₁ lines₁ →
      r.next ≡ None →
      Grants e h c lines (take r.count lines₁)
  next : {h : Held} {c : Call} {memory₁ : Memory} {values₁ : List ℤ} {lines lines₁ out : List ℕ} {r : Report} {cycles : ℕ} →
      ReportIs (environment_for e h) h c lines r memory₁ values₁ lines₁ →
      r.next ≡ Some cycles →
      Grants e (held_by r memory₁) (as_call cycles values₁) lines₁ out →
      Grants e h c lines (take r.count lines₁ ++ out)

-- A call of `open`, then those of `run_grant` if it says that more follows.
module _ (p : Parameters) (text input image : List ℕ) (memory : Memory) (values : List ℤ) (lines : List ℕ) where
  pub data Run : List ℕ → Type 0 where
    refused : {r : Report} {image₁ lines₁ : List ℕ} {memory₁ : Memory} →
        OpenIs p text image memory lines r image₁ memory₁ lines₁ →
        r.next ≡ None →
        Run (take r.count lines₁)
    granted : {r : Report} {image₁ lines₁ out : List ℕ} {memory₁ : Memory} {cycles : ℕ} →
        OpenIs p text image memory lines r image₁ memory₁ lines₁ →
        r.next ≡ Some cycles →
        Grants (environment_of p image₁ input) (held_by r memory₁) (as_call cycles values) lines₁ out →
        Run (take r.count lines₁ ++ out)
