-- What a pass over a text's lines asks of the image, and what it leaves there.
use Rattle.std.specs.Prelude.{ℕ, ◌*◌, ◌≡◌, Bool, true, false, List, replicate}
use Rattle.model.specs.declared.Parameters.{Parameters}
use Rattle.model.specs.Load.{LoadReply}
use Rattle.model.specs.Load.{Accepted, Refused}
use Rattle.model.specs.Load.{image_of}

-- A pass that writes begins with empty cells.
abbrev pub Ready : (write : Bool) → Parameters → (image : List ℕ) → Type 0
Ready true p image = image ≡ replicate (4 * p.t) 0
Ready false p image = Unit {0}

-- A pass that writes leaves the image of an accepted text, another one what it was lent.
abbrev pub Filled : (write : Bool) → Parameters → (text old new : List ℕ) → LoadReply → Type 0
Filled true p text old new (Accepted n) = new ≡ image_of p text
Filled true p text old new (Refused k i) = Unit {0}
Filled false p text old new r = new ≡ old
