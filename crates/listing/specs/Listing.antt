-- Request E7: the listing of an image, a text that loads as that image.
use Rattle.std.specs.Prelude.{ℕ, zero, suc, cond, List, [], ◌∷◌, ◌++◌, map, eqb, pos, length, take, drop}
use Rattle.model.specs.declared.Parameters.{Parameters}
use Rattle.model.specs.Parameters.{between}
use Rattle.model.specs.Words.{Argument, register, special, direct, literal, Cell, cell_of, kind_of, content_of, number_of, is_empty, register_kind, direct_kind, iar_number, ircr_number, shr_number}
use Rattle.model.specs.Numbers.{bytes, decimal}
use Rattle.model.specs.Instructions.{row_of}

-- "the register (0..N-1; IAR 256, IRCR 257, SHR 258)"
abbrev pub register_of : ℕ → Argument
register_of r = cond (between iar_number shr_number r) (special r) (register r)

-- The argument of a word: "1 register, 2 direct cell, 3 number".
abbrev pub argument_of : ℕ → Argument
argument_of w =
    cond (eqb (kind_of w) register_kind) (register_of (content_of w))
    (cond (eqb (kind_of w) direct_kind) (direct (content_of w)) (literal (number_of (content_of w))))

-- "IAR 256, IRCR 257, SHR 258"
abbrev pub special_text : ℕ → List ℕ
special_text r = cond (eqb r iar_number) (bytes "IAR") (cond (eqb r ircr_number) (bytes "IRCR") (bytes "SHR"))

-- "numbers and indexes without + or leading zeros and with any minus in front", "R or DM with digits"
abbrev pub argument_text : Argument → List ℕ
argument_text (register r) = bytes "R" ++ decimal (pos r)
argument_text (special r) = special_text r
argument_text (direct d) = bytes "DM" ++ decimal (pos d)
argument_text (literal z) = decimal z

-- The words of an instruction: the name "in capitals", then each argument that it has.
abbrev pub instruction_words : Cell → List (List ℕ)
instruction_words c =
    (row_of c.head).name
    ∷ map (λ w. argument_text (argument_of w)) (take (length (row_of c.head).forms) (c.first ∷ c.second ∷ c.third ∷ []))

-- "words parted by one space"
unfoldable pub spaced : List (List ℕ) → List ℕ
spaced [] = []
spaced (w ∷ []) = w
spaced (w ∷ v ∷ ws) = w ++ (32 ∷ spaced (v ∷ ws))

-- "one instruction a line .., LF after each"; "An empty cell writes no line, NOP is written out."
unfoldable pub cell_listing : Cell → List ℕ
cell_listing c = cond (is_empty c) [] (spaced (instruction_words c) ++ (10 ∷ []))

-- The listing of the first t cells of ws.
unfoldable pub listing_from : (t : ℕ) (ws : List ℕ) → List ℕ
listing_from zero ws = []
listing_from (suc t) ws = cell_listing (cell_of (take 4 ws)) ++ listing_from t (drop 4 ws)

-- "From an image, write its listing".
abbrev pub listing : Parameters → (image : List ℕ) → List ℕ
listing p image = listing_from p.t image
