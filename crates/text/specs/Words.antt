-- The words that an iterator over a line has left.
use Rattle.std.specs.Prelude.{ℕ, List}
use Rattle.model.specs.Load.{words}
use Rattle.text.specs.declared.words.Words.{Words}

abbrev pub words_left : Words → List (List ℕ)
words_left s = words s.rest.now
