-- DEMAND 3 of the code's own calls: of every list of calls of grant that meet their contract, from a call of start that met its own and was
-- accepted. Assumes nothing.
use mathlib.Core.List.{List, [], ◌∷◌}
use mathlib.Core.Path.{◌≡◌, refl, sym, ap, ◌∙◌}
use Rattle.model.proofs.Demand.{demand3}
use Rattle.model.proofs.Refusals.{start-number}
use Rattle.model.specs.Calls.{held_after, Held, environment_for, start_checks, Started, started, held_after_start, Granted, granted}
use Rattle.model.specs.Demand.{all_granted, held_after_all, Demand3}
use Rattle.model.specs.Grants.{Call}
use Rattle.model.specs.Step.{Environment, Memory, environment_of}
use Rattle.machine.specs.Chains.{Chain, nothing, called}
use Rattle.machine.specs.CallContracts.{StartIs}
use Rattle.machine.proofs.CallLaws.{promised}

-- A grant has the parameters of its record, whatever those of the environment are.
pub own-parameters : (e : Environment) (h : Held) (c : Call) → granted (environment_for e h) h c ≡ granted e h c
unfolding granted
own-parameters e h c = refl

-- What calls gave and left is what the definition gives and leaves.
pub record AsDefined (e : Environment) (h : Held) (calls : List Call) (given : List Granted) (last : Held) : Type 0 where
  pub gave : given ≡ all_granted e h calls
  pub left : last ≡ held_after_all e h calls

module _ (e : Environment) where
  -- It is so of every chain.
  pub chain-granted : {h : Held} {calls : List Call} {given : List Granted} {last : Held} → Chain e h calls given last →
      AsDefined e h calls given last
  unfolding all_granted held_after_all
  chain-granted nothing = record { gave = refl; left = refl }
  chain-granted (called {h} {c} {x} g ch) =
      let t = chain-granted ch in
      let is = g.given ∙ own-parameters e h c in
      record { gave = rw (← is) (ap (λ (l : List Granted). x ∷ l) t.gave); left = rw (← is) t.left }

  -- Every list of calls has a chain, so that the contract of grant asks nothing that cannot be met.
  pub some_chain : (h : Held) (calls : List Call) → Chain e h calls (all_granted e h calls) (held_after_all e h calls)
  unfolding all_granted held_after_all
  some_chain h [] = nothing
  some_chain h (c ∷ cs) = called (promised (environment_for e h) h c (sym (own-parameters e h c))) (some_chain (held_after (granted e h c)) cs)

-- Start reads no input.
pub input-unread : (e : Environment) (m : Memory) → started (environment_of e.parameters e.image []) m ≡ started e m
unfolding started start_checks
input-unread e m = refl

-- DEMAND 3. "A list of grants starts from the record and memory that an accepted start with the list's image left."
pub calls-demand3 : (e : Environment) (m : Memory) (x : Started) →
    StartIs (environment_of e.parameters e.image []) m x →
    x.reply.refusal ≡ 0 →
    (calls : List Call) (given : List Granted) (last : Held) →
    Chain e (held_after_start x) calls given last →
    Demand3 e calls given last
calls-demand3 e m x s accepted calls given last ch =
    let is = s.given ∙ input-unread e m in
    let t = chain-granted e (rw is at ch) in
    let h = sym (start-number e m) ∙ ap (λ (y : Started). y.reply.refusal) (sym is) ∙ accepted in
    rw (t.gave, t.left) (demand3 e m calls h)
