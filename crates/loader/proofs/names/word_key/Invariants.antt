use Prim.Native.Nat.{◌+◌, ◌*◌, ◌^◌, ◌≤◌, ◌<◌}
use mathlib.Core.Path.{◌≡◌}
use lib.ListN.{length, drop}
use Rattle.loader.specs.Keys.{key_from, key_of}
use Rattle.loader.proofs.names.word_key.Given as goal

abbrev pub invariant-loop-b : goal.invariant-loop-b
invariant-loop-b l = (length l.w ≤ 7) × (l.key < 2 ^ (8 * l.b-index + 1)) × (key_of l.w ≡ key_from l.key (drop l.b-index l.w))
