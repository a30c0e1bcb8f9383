-- What each exported function returns and leaves, by document 01's calls. The numbers are those of include/tak.h.
use Rattle.std.specs.Prelude.{ℕ, cond, List, eqb, ℤ, length}
use Rattle.model.specs.declared.Ending.{Ending}
use Rattle.model.specs.declared.Ending.TheVariants.{Failed, Ended, Paused, OutputFull}
use Rattle.model.specs.Grants.{Outcome}
use Rattle.model.specs.Grants.{Refused, Stopped}
use Rattle.model.specs.declared.Parameters.{Parameters}
use Rattle.model.specs.Calls.{Held, Started, started, Granted, granted, outcome_number, Spelled, spelled}
use Rattle.model.specs.Grants.{Call}
use Rattle.model.specs.Step.{Environment, Memory, as_memory}
use Rattle.model.specs.Load.{load_reply, image_after, load_refusal, load_lines, load_line}
use Rattle.tak.specs.Records.{record_from, record_after, record_length}

-- The parameters, as each call has them.
abbrev pub parameters_of : (k n s b t : ℕ) → Parameters
parameters_of k n s b t = record { k = k; n = n; s = s; b = b; t = t }

-- LOAD: what it returns, the numbers behind its pointers, the image.
pub record LoadCall : Type 0 where
  pub number : ℕ
  pub lines : ℕ
  pub line : ℕ
  pub image : List ℕ

-- The paper's three numbers, and the image after the reply.
unfoldable pub tak_load : Parameters → (text image : List ℕ) → LoadCall
tak_load p text image =
    record {
      number = load_refusal p text image;
      lines = load_lines p text image;
      line = load_line p text image;
      image = image_after p text image (load_reply p text image);
    }

-- THE SLICES that a caller keeps from call to call: the record, as numbers, and the memory.
pub record Slices : Type 0 where
  pub fields : List ℤ
  pub memory : Memory

abbrev pub as_slices : (fields registers cells : List ℤ) → Slices
as_slices fields registers cells = record { fields = fields; memory = as_memory registers cells }

-- The record and memory that they are.
abbrev pub held_in : Slices → Held
held_in s = record { rec = record_from s.fields; memory = s.memory }

-- START: what it returns, and the slices.
pub record StartCall : Type 0 where
  pub number : ℕ
  pub slices : Slices

-- A start that document 01 answers by x.
abbrev pub start_replied : Started → (fields : List ℤ) → StartCall
start_replied x fields =
    record {
      number = x.reply.refusal;
      slices = record { fields = record_after x.reply.refusal x.reply.rec fields; memory = x.memory };
    }

-- A record slice of another length is refused first, by TAK_REFUSED_RECORD_LENGTH, 100; else document 01 answers.
unfoldable pub tak_start : Environment → Slices → StartCall
tak_start e s =
    cond (eqb (length s.fields) record_length) (start_replied (started e s.memory) s.fields) (record { number = 100; slices = s })

-- TAK_FAILED, TAK_ENDED, TAK_PAUSED, TAK_OUTPUT_FULL.
abbrev pub ending_number : Ending → ℕ
ending_number Failed = 1
ending_number Ended = 2
ending_number Paused = 3
ending_number OutputFull = 4

-- How an accepted grant ended; 0 for a refused one.
abbrev pub outcome_ending : Outcome → ℕ
outcome_ending (Refused k) = 0
outcome_ending (Stopped e) = ending_number e

-- GRANT: what it returns, the numbers behind its pointers, the slices, and the output slice.
pub record GrantCall : Type 0 where
  pub number : ℕ
  pub ending : ℕ
  pub values : ℕ
  pub spent : ℕ
  pub slices : Slices
  pub output : List ℤ

-- A grant that document 01 answers by x.
abbrev pub grant_replied : Granted → (fields : List ℤ) → GrantCall
grant_replied x fields =
    let number = outcome_number x.reply.outcome in
    record {
      number = number;
      ending = outcome_ending x.reply.outcome;
      values = x.reply.values;
      spent = x.reply.cycles;
      slices = record { fields = record_after number x.reply.rec fields; memory = x.memory };
      output = x.slice;
    }

-- The same check first; else document 01 answers, for the record that the slice is, which has the parameters too.
unfoldable pub tak_grant : Environment → Slices → Call → GrantCall
tak_grant e s c =
    cond (eqb (length s.fields) record_length)
    (grant_replied (granted e (held_in s) c) s.fields)
    (record { number = 100; ending = 0; values = 0; spent = 0; slices = s; output = c.slice })

-- DECIMAL: what it returns, the count of bytes written, the bytes.
pub record DecimalCall : Type 0 where
  pub number : ℕ
  pub count : ℕ
  pub bytes : List ℕ

-- A value that document 01's writer answers by x.
abbrev pub decimal_replied : Spelled → DecimalCall
decimal_replied x = record { number = x.reply.refusal; count = x.reply.count; bytes = x.bytes }

-- The decimal writer.
unfoldable pub tak_decimal : ℤ → (bytes : List ℕ) → DecimalCall
tak_decimal value bytes = decimal_replied (spelled value bytes)
