-- What a run reads, as model has it.
use Rattle.model.specs.Step.{Environment, environment_of}
use Rattle.engine.specs.declared.program.Program.{Program}

abbrev pub environment_in : Program → Environment
environment_in g = environment_of g.limits.parameters g.image.now g.input.now
