-- What is found before a step, as the code answers it.
use Rattle.std.specs.Prelude.{ℕ, length, Result, Ok, Err}
use Rattle.model.specs.Machine.{Look, stops, goes, look_at}
use Rattle.model.specs.Step.{Environment, State, current_cell, step_cost, step_values, Tak}
use Rattle.image.specs.Decode.{instruction_of}
use Rattle.model.specs.declared.Ending.{Ending}
use Rattle.engine.specs.declared.looks.Offer.{Offer}

-- A look's answer: the ending; or the current instruction, its cost, and how many values it writes.
abbrev pub found_of : Environment → State → Look → Result Offer Ending
found_of e s (stops x) = Err x
found_of e s goes = Ok (record { instruction = instruction_of (current_cell e s); cost = step_cost e s; values = length (step_values e s) })

-- What document 01's look finds at a state.
abbrev pub found_at : Environment → State → (allowance room : ℕ) → Result Offer Ending
found_at e s allowance room = found_of e s (look_at (Tak e) s allowance room)
