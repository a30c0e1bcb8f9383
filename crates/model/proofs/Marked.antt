-- Document 01, "Marked runs", as one computed list, and the decided points as another: K = 8, N = 2, S = 4, B = 2, T = 6. Assumes nothing.
use Prim.Native.Nat.{ℕ}
use Prim.Native.String.{String}
use mathlib.Core.Path.{◌≡◌, refl}
use mathlib.Core.List.{List, [], ◌∷◌, ◌++◌, map}
use lib.IntN.{ℤ, pos, negsuc}
use lib.ListN.{length, take, replicate}
use Rattle.model.specs.declared.Parameters.{Parameters}
use Rattle.model.specs.declared.Record.{Record}
use Rattle.model.specs.declared.Ending.{Ending}
use Rattle.model.specs.declared.Ending.TheVariants.{Failed, Ended, Paused, OutputFull}
use Rattle.model.specs.Grants.{Outcome}
use Rattle.model.specs.Grants.{Refused, Stopped}
use Rattle.model.specs.Load.{LoadReply}
use Rattle.model.specs.Load.{Accepted}
use Rattle.model.specs.Load as load
use Rattle.model.specs.Parameters.{refusal_of, parameter_checks}
use Rattle.model.specs.Numbers.{bytes, digits_from, digits_of}
use Rattle.model.specs.Arithmetic.{checked, divide, remainder, negation, logic, bits_of, signed_of, bitwise, shift_left, shift_right, shift_right_signed}
use Rattle.model.specs.Instructions.{instruction_count, row_of, directs, cost_of}
use Rattle.model.specs.Load.{lines_from, words_from, same_word, lookup_from, names, special_of, plain, argument, allows, is_within, arguments_from, line_cell, lines_reply, lines_words, text_reply, image_of, load_checks, load_reply}
use Rattle.model.specs.Images.{word_fits, words_fit, cell_fits, all_zero, cells_fit}
use Rattle.model.specs.Machine.{look, look_at}
use Rattle.model.specs.Grants.{Call, hand_back, refuse, advance, loop, run, accept, grant}
use Rattle.model.specs.Step.{Environment, environment_of, fresh_state, register_value, value_of, store, jump_to, push, pop, blanks_of, token_of, input, execute, state_status, step_cost, step_values, step}
use Rattle.model.specs.Calls.{Held, held_after_start, Granted, granted, fresh_memory, started, start_checks, record_fits, grant_checks, grant_refusal, outcome_number, ending_word}
use Rattle.model.specs.Lines.{value_lines}
use Rattle.model.specs.Settings.{fields_from, setting, all_settings}
use Rattle.model.specs.Program.{grant_lines, printed}
use Rattle.model.specs.Demand.{all_granted, held_after_all, joined_outputs}

abbrev p : Parameters
p = record { k = 8; n = 2; s = 4; b = 2; t = 6 }

-- A refusal's number; an ending's place in document 01's list, from 1.
abbrev ending_number : Ending → ℕ
ending_number Failed = 1
ending_number Ended = 2
ending_number Paused = 3
ending_number OutputFull = 4

abbrev outcome : Outcome → List ℕ
outcome (Refused k) = 0 ∷ k ∷ []
outcome (Stopped e) = ending_number e ∷ []

-- The words of the first cell of a text; and what load replies: 0 and the count of lines, or the refusal and the line's index.
first_cell : String → List ℕ
first_cell text = take 4 (image_of p (bytes text))

reply : LoadReply → List ℕ
reply (Accepted n) = 0 ∷ n ∷ []
reply (load.Refused k i) = k ∷ i ∷ []

loads : String → List ℕ
loads text = reply (load_reply p (bytes text) (replicate 24 7))

-- A text, started and granted a list of cycles, each with an output slice of two values.
calls : List ℕ → List Call
calls gs = map (λ g. record { cycles = g; slice = pos 9 ∷ pos 9 ∷ [] }) gs

-- What the text's image is started and granted in, with an empty input.
lent : List ℕ → Environment
lent image = environment_of p image []

from : String → Held
from text = held_after_start (started (lent (image_of p (bytes text))) (fresh_memory p))

answers : String → List ℕ → List Granted
answers text gs = all_granted (lent (image_of p (bytes text))) (from text) (calls gs)

-- Ending, values written and cycles spent of each grant.
spends : String → List ℕ → List (List ℕ)
spends text gs = map (λ (x : Granted). outcome x.reply.outcome ++ (x.reply.values ∷ x.reply.cycles ∷ [])) (answers text gs)

prints : String → List ℕ → List ℤ
prints text gs = joined_outputs (answers text gs)

-- After one grant: IRCR, IAR and spent; the registers; SHR and the data cells.
left : String → Held
left text = held_after_all (lent (image_of p (bytes text))) (from text) (calls (1_000_000_000 ∷ []))

ends : String → List ℕ
ends text = (left text).rec.ircr ∷ (left text).rec.iar ∷ (left text).rec.spent ∷ []

registers : String → List ℤ
registers text = (left text).memory.registers

stack : String → List ℤ
stack text = (left text).rec.shr ∷ (left text).memory.cells

-- SHR and the deepest SHR after it.
depths : String → List ℤ
depths text = (left text).rec.shr ∷ (left text).rec.deepest ∷ []

-- A grant of 0 on the fresh record with another deepest SHR: its number, if it is refused, and the deepest SHR handed back.
figured : ℤ → List ℤ
figured z =
    let e = lent (image_of p []) in
    let r : Record = record { parameters = p; iar = 0; ircr = 0; shr = pos 1; place = 0; granted = 0; spent = 0; deepest = z } in
    let x = granted e (record { rec = r; memory = fresh_memory p }) (record { cycles = 0; slice = [] }) in
    pos (outcome_number x.reply.outcome) ∷ x.reply.rec.deepest ∷ []

-- The number of a start with this image.
starts : List ℕ → List ℕ
starts image = refusal_of (start_checks (lent image) (fresh_memory p)) ∷ []

-- A cell with this head and a register: its row's name and forms; its cost and how many values it writes.
headed : ℕ → List (List ℕ)
headed n =
    let e = lent (n ∷ 0x40000000 ∷ replicate 22 0) in
    (row_of n).name ∷ (row_of n).forms ∷ (step_cost e (fresh_state p) ∷ length (step_values e (fresh_state p)) ∷ []) ∷ []

-- Something computed and what document 01 says of it.
pub data Mark : Type 0 where
  words : (computed said : List ℕ) → Mark
  values : (computed said : List ℤ) → Mark
  grants : (computed said : List (List ℕ)) → Mark

pub computed : Mark → Mark
computed (words a b) = words a a
computed (values a b) = values a a
computed (grants a b) = grants a a

pub said : Mark → Mark
said (words a b) = words b b
said (values a b) = values b b
said (grants a b) = grants b b

pub marks : List Mark
marks =
    words (instruction_count ∷ []) (55 ∷ [])
    ∷ words (first_cell "SET R0 13") (0x8 ∷ 0x40000000 ∷ 0xC000000D ∷ 0 ∷ [])
    ∷ words (first_cell "SET R0 -10") (0x8 ∷ 0x40000000 ∷ 0xFFFFFFF6 ∷ 0 ∷ [])
    ∷ values (registers "SET R0 13\nSET R1 -10\nDIV R0 R1 R1") (pos 13 ∷ negsuc 0 ∷ [])
    ∷ values (registers "SET R0 13\nSET R1 -10\nMOD R0 R1 R1") (pos 13 ∷ pos 3 ∷ [])
    ∷ values (registers "SET R0 -13\nSET R1 10\nMOD R0 R1 R1") (negsuc 12 ∷ negsuc 2 ∷ [])
    ∷ words (ends "SET R0 -128\nSET R1 -1\nDIV R0 R1 R1") (1 ∷ 2 ∷ 52 ∷ [])
    ∷ values (registers "SET R0 64\nRSL R0") (negsuc 127 ∷ pos 0 ∷ [])
    ∷ values (registers "SET R0 -1\nRSR R0") (pos 127 ∷ pos 0 ∷ [])
    ∷ values (registers "SET R0 -1\nASR R0") (negsuc 0 ∷ pos 0 ∷ [])
    ∷ values (registers "SET R0 3\nRNOT R0 R1") (pos 3 ∷ negsuc 3 ∷ [])
    ∷ values (stack "PUSH SHR") (pos 2 ∷ pos 0 ∷ pos 0 ∷ pos 2 ∷ pos 0 ∷ [])
    ∷ words (ends "\n\n\n\nSKIP") (1 ∷ 4 ∷ 8 ∷ [])
    ∷ words (ends "\n\n\nSKIP") (0 ∷ 5 ∷ 7 ∷ [])
    ∷ words (loads "SET R0 128") (14 ∷ 0 ∷ [])
    ∷ words (loads "SET R0 -128") (0 ∷ 1 ∷ [])
    ∷ words (loads "MOV R0 IAR") (13 ∷ 0 ∷ [])
    ∷ values (prints "SET R0 13\nSET R1 -10\nDIV R0 R1 R1\nOUT R1" (1_000_000_000 ∷ [])) (negsuc 0 ∷ [])
    ∷ words (ends "SET R0 13\nSET R1 -10\nDIV R0 R1 R1\nOUT R1") (0 ∷ 4 ∷ 103 ∷ [])
    ∷ grants (spends "SET R0 13\nSET R1 -10\nDIV R0 R1 R1\nOUT R1" (1_000_000_000 ∷ [])) ((2 ∷ 1 ∷ 103 ∷ []) ∷ [])
    ∷ grants (spends "SET R0 13\nSET R1 -10\nDIV R0 R1 R1\nOUT R1" (52 ∷ 50 ∷ 1 ∷ []))
    ((3 ∷ 0 ∷ 52 ∷ []) ∷ (3 ∷ 0 ∷ 0 ∷ []) ∷ (2 ∷ 1 ∷ 51 ∷ []) ∷ [])
    ∷ words (printed (bytes "8 2 4 2 6") (bytes "SET R0 13\nSET R1 -10\nDIV R0 R1 R1\nOUT R1") []) (bytes "-1\nENDED 0 4 103\n")
    ∷ []

pub marked-runs : map computed marks ≡ map said marks
unfolding first_cell reply loads calls lent from answers spends prints left ends registers stack computed marks said parameter_checks digits_from checked divide remainder negation logic bits_of signed_of bitwise shift_left shift_right shift_right_signed row_of directs cost_of lines_from words_from same_word lookup_from names special_of plain argument allows is_within arguments_from line_cell lines_reply lines_words text_reply image_of load_checks load_reply word_fits words_fit cell_fits all_zero cells_fit look look_at hand_back refuse advance loop run accept grant register_value value_of store jump_to push pop blanks_of token_of input execute state_status step_cost step_values step granted started start_checks record_fits grant_checks grant_refusal all_granted held_after_all joined_outputs digits_of ending_word value_lines fields_from setting all_settings grant_lines printed
marked-runs = refl

-- Points that the papers leave open, as docs/DECISIONS.md decides them.
pub decisions : List Mark
decisions =
    -- lines and comments
    words (loads "") (0 ∷ 0 ∷ [])
    ∷ words (loads "\n") (0 ∷ 1 ∷ [])
    ∷ words (loads "NOP\n\r") (0 ∷ 2 ∷ [])
    ∷ words (first_cell "SET R0 5/2") (0x8 ∷ 0x40000000 ∷ 0xC0000005 ∷ 0 ∷ [])
    ∷ words (loads "NOP\nN/OP") (11 ∷ 1 ∷ [])
    -- the order of 11 to 14
    ∷ words (loads "ADD ?? ??") (12 ∷ 0 ∷ [])
    ∷ words (loads "ADD R99 ?? R0") (14 ∷ 0 ∷ [])
    ∷ words (loads "ADD ?? R99 R0") (13 ∷ 0 ∷ [])
    ∷ words (loads "SET R0 R999") (13 ∷ 0 ∷ [])
    -- registers in a text
    ∷ words (loads "OUT R256") (14 ∷ 0 ∷ [])
    ∷ words (loads "OUT R-1") (13 ∷ 0 ∷ [])
    ∷ words (loads "OUT DM") (13 ∷ 0 ∷ [])
    ∷ words (loads "INC SHR 1") (13 ∷ 0 ∷ [])
    ∷ words (loads "RSL IAR") (13 ∷ 0 ∷ [])
    -- numbers of any length
    ∷ words (first_cell "SET R0 +0000000000000000000000000000000000000007") (0x8 ∷ 0x40000000 ∷ 0xC0000007 ∷ 0 ∷ [])
    ∷ words (loads "SET R0 99999999999999999999999999999999999999999") (14 ∷ 0 ∷ [])
    -- jump targets fail when taken, and only then
    ∷ words (loads "JMP -5") (0 ∷ 1 ∷ [])
    ∷ words (ends "JMP -5") (1 ∷ 0 ∷ 4 ∷ [])
    ∷ words (ends "JMP 6") (1 ∷ 0 ∷ 4 ∷ [])
    ∷ words (ends "JMPT 99 R0") (0 ∷ 1 ∷ 6 ∷ [])
    ∷ words (ends "SET R0 5\nJMPT 99 R0") (2 ∷ 1 ∷ 17 ∷ [])
    -- a number's word is extended to 30 bits, not to K
    ∷ words (starts (0x8 ∷ 0x40000000 ∷ 0xFFFFFFF6 ∷ 0 ∷ replicate 20 0)) (0 ∷ [])
    ∷ words (starts (0x8 ∷ 0x40000000 ∷ 0xC00000F6 ∷ 0 ∷ replicate 20 0)) (10 ∷ [])
    -- -13 DIV -10; special registers cost what registers cost; IN with nothing left
    ∷ values (registers "SET R0 -13\nSET R1 -10\nDIV R0 R1 R1") (negsuc 12 ∷ pos 1 ∷ [])
    ∷ words (ends "OUT IAR\nMOV IAR R0") (0 ∷ 2 ∷ 53 ∷ [])
    ∷ words (ends "IN R0") (3 ∷ 0 ∷ 51 ∷ [])
    -- the deepest SHR: at first; after pushes and pops; a failing PUSH does not count; below SHR, at SHR, at S-1, above S-1
    ∷ values (depths "NOP") (pos 1 ∷ pos 1 ∷ [])
    ∷ values (depths "PUSH R0\nPUSH R0\nPOP R0\nPOP R0\nPUSH R0") (pos 2 ∷ pos 3 ∷ [])
    ∷ values (depths "PUSH R0\nPUSH R0\nPUSH R0") (pos 3 ∷ pos 3 ∷ [])
    ∷ values (figured (pos 0)) (pos 15 ∷ pos 0 ∷ [])
    ∷ values (figured (pos 1)) (pos 0 ∷ pos 1 ∷ [])
    ∷ values (figured (pos 3)) (pos 0 ∷ pos 3 ∷ [])
    ∷ values (figured (pos 4)) (pos 15 ∷ pos 4 ∷ [])
    -- DIVR: quotient and remainder; sources are read first; its codes are DIV's, with neither target changed; its number; ARG1 and ARG3 apart, behind 13 and 14
    ∷ values (registers "SET R0 13\nSET R1 -10\nDIVR R0 R1 R1") (pos 3 ∷ negsuc 0 ∷ [])
    ∷ values (registers "SET R0 -13\nSET R1 5\nDIVR R0 R0 R1") (pos 0 ∷ pos 1 ∷ [])
    ∷ values (registers "SET R0 7\nDIVR R0 R1 R1") (pos 7 ∷ pos 0 ∷ [])
    ∷ words (ends "SET R0 7\nDIVR R0 R1 R1") (2 ∷ 1 ∷ 42 ∷ [])
    ∷ words (ends "SET R0 -128\nSET R1 -1\nDIVR R0 R1 R1") (1 ∷ 2 ∷ 53 ∷ [])
    ∷ words (first_cell "divr R0 IRCR R1") (0x37 ∷ 0x40000000 ∷ 0x40000101 ∷ 0x40000001 ∷ [])
    ∷ words (loads "NOP\nDIVR R1 R0 R01") (19 ∷ 1 ∷ [])
    ∷ words (loads "DIVR R2 R0 R2") (14 ∷ 0 ∷ [])
    ∷ words (loads "DIVR SHR R0 SHR") (13 ∷ 0 ∷ [])
    ∷ words (starts (0x37 ∷ 0x40000000 ∷ 0x40000000 ∷ 0x40000001 ∷ replicate 20 0)) (0 ∷ [])
    ∷ words (starts (0x37 ∷ 0x40000001 ∷ 0x40000000 ∷ 0x40000001 ∷ replicate 20 0)) (10 ∷ [])
    -- a head that is no instruction's number counts as NOP
    ∷ grants (headed 0) (bytes "NOP" ∷ [] ∷ (1 ∷ 0 ∷ []) ∷ [])
    ∷ grants (headed 56) (bytes "NOP" ∷ [] ∷ (1 ∷ 0 ∷ []) ∷ [])
    ∷ []

pub decided_points : map computed decisions ≡ map said decisions
unfolding first_cell reply loads calls lent from answers spends prints left ends registers stack depths figured computed decisions said starts headed parameter_checks digits_from checked divide remainder negation logic bits_of signed_of bitwise shift_left shift_right shift_right_signed row_of directs cost_of lines_from words_from same_word lookup_from names special_of plain argument allows is_within arguments_from line_cell lines_reply lines_words text_reply image_of load_checks load_reply word_fits words_fit cell_fits all_zero cells_fit look look_at hand_back refuse advance loop run accept grant register_value value_of store jump_to push pop blanks_of token_of input execute state_status step_cost step_values step granted started outcome_number start_checks record_fits grant_checks grant_refusal all_granted held_after_all joined_outputs
decided_points = refl
