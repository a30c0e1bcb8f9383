-- Document 01, refusal 10: "an image that no text yields under the loading rules, refusal 7 disregarded".
use Rattle.std.specs.Prelude.{ℕ, zero, suc, ◌<◌, ◌≡◌, Bool, true, false, not, ◌&&◌, cond, List, [], ◌∷◌, eqb, get_or, length, take, drop}
use Rattle.model.specs.declared.Parameters.{Parameters}
use Rattle.model.specs.Load.{Accepted}
use Rattle.model.specs.Parameters.{between}
use Rattle.model.specs.Words.{Argument, register, special, direct, literal, Cell, cell_of, kind_of, register_kind, direct_kind, number_kind, content_of, iar_number, shr_number, number_of, is_empty}
use Rattle.model.specs.Instructions.{instruction_count, row_of}
use Rattle.model.specs.Load.{text_reply, image_of, allows, is_within, one_target}

-- A text, of any length, that is accepted under these parameters with this image.
pub record Yields (p : Parameters) (text image : List ℕ) : Type 0 where
  pub bytes : (i : ℕ) → i < length text → get_or text i 0 < 256
  pub lines : ℕ
  pub accepted : text_reply p text ≡ Accepted lines
  pub same : image_of p text ≡ image

-- 10 in the paper's words.
abbrev pub NoTextYields : Parameters → List ℕ → Type 0
NoTextYields p image = (text : List ℕ) → ¬ Yields p text image

-- THE TEST ON CELLS, which 10's number uses.
-- "the register (0..N-1; IAR 256, IRCR 257, SHR 258)"
abbrev pub register_fits : Parameters → (form r : ℕ) → Bool
register_fits p form r = cond (between iar_number shr_number r) (allows form (special r)) (allows form (register r) && is_within p (register r))

-- Neither 13 nor 14.
abbrev argument_fits : Parameters → ℕ → Argument → Bool
argument_fits p form a = allows form a && is_within p a

-- A word at a place of this form: kind 1, 2 or 3.
unfoldable pub word_fits : Parameters → (form word : ℕ) → Bool
word_fits p form w =
    cond (eqb (kind_of w) register_kind) (register_fits p form (content_of w))
    (cond (eqb (kind_of w) direct_kind) (argument_fits p form (direct (content_of w)))
    (eqb (kind_of w) number_kind && argument_fits p form (literal (number_of (content_of w)))))

-- The words at the places of a row; "An absent argument is 0."
unfoldable pub words_fit : Parameters → (forms words : List ℕ) → Bool
words_fit p [] [] = true
words_fit p [] (w ∷ ws) = eqb w 0 && words_fit p [] ws
words_fit p (f ∷ fs) [] = false
words_fit p (f ∷ fs) (w ∷ ws) = word_fits p f w && words_fit p fs ws

-- An instruction: its number, its arguments by its row, and not 19 (request E3: "an image with such a cell gets 10").
unfoldable pub cell_fits : Parameters → Cell → Bool
cell_fits p c =
    between 1 instruction_count c.head
    && (words_fit p (row_of c.head).forms (c.first ∷ c.second ∷ c.third ∷ []) && not (one_target c))

-- "only empty cells follow it"
unfoldable pub all_zero : List ℕ → Bool
all_zero [] = true
all_zero (w ∷ ws) = eqb w 0 && all_zero ws

-- "An empty cell is four zeros, and only empty cells follow it": the first t cells of ws.
unfoldable pub cells_fit : Parameters → (t : ℕ) (ws : List ℕ) → Bool
cells_fit p zero ws = true
cells_fit p (suc t) ws =
    elim (is_empty (cell_of (take 4 ws))) [ true ↦ all_zero ws | false ↦ cell_fits p (cell_of (take 4 ws)) && cells_fit p t (drop 4 ws) ]

-- The test of a whole image of 4·T words.
abbrev pub image_fits : Parameters → List ℕ → Bool
image_fits p image = cells_fit p p.t image
