-- Document 01, "Marked runs": what `takrun` does with the contents of its files, call by call. A buffer is marked ₀ before the call, ₁ after it.
use Rattle.std.specs.Prelude.{ℕ, zero, suc, ◌+◌, ◌*◌, ◌≤◌, ◌<◌, Bool, true, false, cond, Option, Some, None, List, [], ◌++◌, ◌≡◌, eqb, leb, ℤ, length, drop}
use Rattle.model.specs.Calls.{Held, Started, started, Granted, granted}
use Rattle.model.specs.Grants.{Call}
use Rattle.model.specs.Step.{Environment, environment_of, Memory}
use Rattle.model.specs.Lines.{refusal_line}
use Rattle.model.specs.Load.{load_reply, image_after}
use Rattle.model.specs.Program.{is_full, reply_lines, slice_values, first_grant}
use Rattle.model.specs.Load.{LoadReply}
use Rattle.model.specs.Load as load
use Rattle.model.specs.declared.Parameters.{Parameters}
use Rattle.model.specs.declared.Record.{Record}
use Rattle.model.specs.Parameters.{max_registers, max_cells, max_instructions}
use Rattle.session.specs.Puts.{longest_line}
use Rattle.session.specs.declared.Report.{Report}

-- The cycles of the grant that follows, if one does.
abbrev pub followed_by : (follows : Bool) (cycles : ℕ) → Option ℕ
followed_by true n = Some n
followed_by false n = None

-- START. "A refused call prints .. number, line index (0 but from load), and is the last."
abbrev pub start_line : (refusal : ℕ) → List ℕ
start_line zero = []
start_line (suc k) = refusal_line (suc k) 0

-- The text stands in front of the buffer, up to `end`.
pub record Shows (text lines₀ : List ℕ) (end : ℕ) (lines₁ : List ℕ) : Type 0 where
  pub count : end ≡ length text
  pub lines : lines₁ ≡ text ++ drop end lines₀

module _ (e : Environment) (memory₀ : Memory) (lines₀ : List ℕ) where
  abbrev begun : Started
  begun = started e memory₀

  pub record BeginIs (r : Report) (memory₁ : Memory) (lines₁ : List ℕ) : Type 0 where
    pub shows : Shows (start_line begun.reply.refusal) lines₀ r.count lines₁
    -- "grants 10^9 once"
    pub next : r.next ≡ followed_by (eqb begun.reply.refusal 0) first_grant
    pub rec : r.rec ≡ begun.reply.rec
    pub memory : memory₁ ≡ begun.memory

-- LOAD, THEN START.
-- The length of a slice of n, where n is within its limit; over it the checks of the parameters refuse, whatever the slice.
abbrev pub size_of : (n most : ℕ) → ℕ
size_of n most = cond (leb n most) n 0

-- The slices have the parameters' lengths.
pub record Sizes (p : Parameters) (image : List ℕ) (memory : Memory) : Type 0 where
  pub words : length image ≡ 4 * size_of p.t max_instructions
  pub register-count : length memory.registers ≡ size_of p.n max_registers
  pub cell-count : length memory.cells ≡ size_of p.s max_cells

-- A refused load is the last call.
pub record Unloaded (k i : ℕ) (memory₀ : Memory) (lines₀ : List ℕ) (r : Report) (memory₁ : Memory) (lines₁ : List ℕ) : Type 0 where
  pub shows : Shows (refusal_line k i) lines₀ r.count lines₁
  pub next : r.next ≡ None
  pub memory : memory₁ ≡ memory₀

module _ (p : Parameters) (text image₀ : List ℕ) (memory₀ : Memory) (lines₀ : List ℕ) where
  -- By what load replies.
  abbrev pub OpenBy : LoadReply → Report → (image₁ : List ℕ) (memory₁ : Memory) (lines₁ : List ℕ) → Type 0
  OpenBy (load.Refused k i) r image₁ memory₁ lines₁ = Unloaded k i memory₀ lines₀ r memory₁ lines₁
  OpenBy (load.Accepted n) r image₁ memory₁ lines₁ = BeginIs (environment_of p image₁ []) memory₀ lines₀ r memory₁ lines₁

  pub record OpenIs (r : Report) (image₁ : List ℕ) (memory₁ : Memory) (lines₁ : List ℕ) : Type 0 where
    pub image : image₁ ≡ image_after p text image₀ (load_reply p text image₀)
    pub by : OpenBy (load_reply p text image₀) r image₁ memory₁ lines₁

-- A GRANT AND ITS LINES.
-- The bytes of the lines: at most 12 for a value, then those of the last line.
abbrev pub lines_bytes : ℕ
lines_bytes = 12 * slice_values + longest_line

-- What a full output leaves, from the record `before` on: at least one cycle spent more, and the grants' cycles together are not used up.
-- So 0 granted after each full output comes to an end.
pub record Progress (before : Record) (cycles : ℕ) (after : Record) : Type 0 where
  pub spends : before.spent < after.spent
  pub within : after.spent ≤ after.granted
  pub granted : after.granted ≡ before.granted + cycles

module _ (e : Environment) (h : Held) (c : Call) (lines₀ : List ℕ) where
  abbrev grant_result : Granted
  grant_result = granted e h c

  pub record ReportIs (r : Report) (memory₁ : Memory) (values₁ : List ℤ) (lines₁ : List ℕ) : Type 0 where
    pub shows : Shows (reply_lines grant_result) lines₀ r.count lines₁
    -- "then 0 after each full output"
    pub next : r.next ≡ followed_by (is_full grant_result.reply.outcome) 0
    pub rec : r.rec ≡ grant_result.reply.rec
    pub memory : memory₁ ≡ grant_result.memory
    pub values : values₁ ≡ grant_result.slice
    pub size : length values₁ ≡ length c.slice
    pub progress : is_full grant_result.reply.outcome ≡ true → Progress h.rec c.cycles r.rec
