-- `settings_of` meets its contract. Assumes nothing.
use mathlib.Core.Path.{◌≡◌}
use Rattle.std.proofs.Common.{rules}
use Rattle.settings.specs.Scans.{settings_of}
use Rattle.settings.proofs.Chunks.{settings_of_meaning}
use Rattle.settings.proofs.settings_of.Goals as goal

pub returns-in-Some-clause-meaning : goal.returns-in-Some-clause-meaning
unfolding settings_of
returns-in-Some-clause-meaning c = let value : c.in-Some.whole.last ≡ settings_of c.args.scan = search rules in (settings_of_meaning value).1

pub returns-in_default-clause-meaning : goal.returns-in_default-clause-meaning
unfolding settings_of
returns-in_default-clause-meaning c = let value : c.default.result ≡ settings_of c.args.scan = search rules in (settings_of_meaning value).1
