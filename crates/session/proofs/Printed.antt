-- What the calls of a run write, one behind the other, is what document 01 says that `takrun` prints. Assumes nothing.
use Prim.Native.Nat.{ℕ, zero, suc, ◌+◌, ◌*◌, ◌-◌, ◌<◌}
use mathlib.Core.Bool.{Bool, true, false}
use mathlib.Core.List.{List, [], ◌∷◌, ◌++◌, append-nil}
use mathlib.Core.Path.{◌≡◌, refl, sym, ap, ◌∙◌}
use native.Mathlib.Omega.{arith}
use lib.Dec.{eqb, leb}
use lib.IntN.{ℤ, pos}
use lib.ListN.{length, take, replicate, length-replicate}
use lib.Seq.{take-append_seam}
use borrow.Author.Tests.{le-leb, eqb-true}
use Rattle.model.proofs.Fits.{limits, refusal-first, Sized}
use Rattle.model.proofs.Lists as lists
use Rattle.model.proofs.Refusals.{load-refused-first, grant-refused}
use Rattle.machine.proofs.Demand.{input-unread}
use Rattle.model.specs.Calls.{Held, as_call, environment_for, account_of, Started, start_checks, fresh_memory, started, held_after_start, Granted, granted, held_after, grant_checks, grant_refusal, fresh_record}
use Rattle.model.specs.Grants.{Call, accept, hand_back}
use Rattle.model.specs.Lines.{refusal_line}
use Rattle.model.specs.Load.{image_of, image_after, load_checks, load_reply}
use Rattle.model.specs.Parameters.{◌unless◌, refusal_of, parameter_checks, Fit, max_registers, max_cells, max_instructions, max_text}
use Rattle.model.specs.Program.{is_full, reply_lines, slice_values, slice_call, grant_lines, first_grant, start_lines, printed}
use Rattle.model.specs.Settings.{settings}
use Rattle.model.specs.Step.{Environment, Memory, Tak, environment_of}
use Rattle.model.specs.Calls.{GrantReply}
use Rattle.model.specs.Load.{LoadReply}
use Rattle.model.specs.Load as load
use Rattle.model.specs.declared.Parameters.{Parameters}
use Rattle.model.specs.declared.Record.{Record}
use Rattle.model.specs.Calls.{StartReply}
use Rattle.std.specs.Prelude.{Option, Some, None}
use Rattle.session.specs.Runs.{Grants, last, next, Run, refused, granted as goes}
use Rattle.session.specs.Sessions.{followed_by, start_line, Shows, Sizes, OpenBy, OpenIs, ReportIs}
use Rattle.session.specs.declared.Report.{Report}
use Rattle.std.proofs.lemmas.Grind.{common_steps}
use Rattle.std.proofs.Common.{rules}

-- The bytes that a call puts in front of the buffer.
shows-text : {text lines₀ lines₁ : List ℕ} {end : ℕ} → Shows text lines₀ end lines₁ → take end lines₁ ≡ text
shows-text {text} s = rw (s.lines, s.count) (take-append_seam text _)

-- A GRANT: what its slice held before does not matter.
record Alike (x y : Granted) : Type 0 where
  reply : x.reply ≡ y.reply
  memory : x.memory ≡ y.memory
  lines : reply_lines x ≡ reply_lines y

module _ (e : Environment) (held : Held) (cycles : ℕ) (s₁ s₂ : List ℤ) (same : length s₁ ≡ length s₂) where
  abbrev lent : Environment
  lent = environment_for e held

  abbrev result : List ℤ → Granted
  result s = granted e held (as_call cycles s)

  abbrev refusal : List ℤ → ℕ
  refusal s = grant_refusal lent (account_of held) (as_call cycles s)

  refusal-alike : refusal s₁ ≡ refusal s₂
  unfolding grant_refusal grant_checks
  refusal-alike = refl

  alike : Alike (result s₁) (result s₂)
  unfolding granted accept hand_back
  alike = go (refusal s₁) refl
    where
      go : (k : ℕ) → refusal s₁ ≡ k → Alike (result s₁) (result s₂)
      go zero h =
          let x = lists.grant-accepted (Tak lent) (grant_refusal lent) (account_of held) (as_call cycles s₁) h in
          let y = lists.grant-accepted (Tak lent) (grant_refusal lent) (account_of held) (as_call cycles s₂) (sym refusal-alike ∙ h) in
          rw (x, y) (record { reply = rw same; memory = rw same; lines = rw (take-append_seam, same, take-append_seam) })
      go (suc k) h =
          let x = grant-refused e held (as_call cycles s₁) k h in
          let y = grant-refused e held (as_call cycles s₂) k (sym refusal-alike ∙ h) in
          rw (x, y) (record { reply = refl; memory = refl; lines = refl })

-- THE GRANTS
module _ (e : Environment) (n cycles : ℕ) (h : Held) where
  abbrev first : Granted
  first = granted e h (slice_call cycles)

  pub lines-last : is_full first.reply.outcome ≡ false → grant_lines e (suc n) cycles h ≡ reply_lines first ++ []
  unfolding grant_lines
  lines-last q = rw (q, grant_lines)

  lines_next : is_full first.reply.outcome ≡ true → grant_lines e (suc n) cycles h ≡ reply_lines first ++ grant_lines e n 0 (held_after first)
  unfolding grant_lines
  lines_next q = rw (q, grant_lines)

-- A grant has the parameters of its record, whatever those of the environment are.
own_report : {e : Environment} {h : Held} {c : Call} {lines : List ℕ} {r : Report} {memory₁ : Memory} {values₁ : List ℤ} {lines₁ : List ℕ} →
    ReportIs (environment_for e h) h c lines r memory₁ values₁ lines₁ → ReportIs e h c lines r memory₁ values₁ lines₁
unfolding granted
own_report is = search rules

-- Whether a grant follows, and with which cycles.
follows-none : (b : Bool) (n : ℕ) → followed_by b n ≡ None → b ≡ false
follows-none true n h = cc
follows-none false n h = refl

follows-some : (b : Bool) (n m : ℕ) → followed_by b n ≡ Some m → (b ≡ true) × (m ≡ n)
follows-some true n m h = (refl, cc)
follows-some false n m h = cc

-- From a record on whose cycles, with the next grant's, are more than spent by less than n.
grants_print : (e : Environment) {h : Held} {c : Call} {lines out : List ℕ} → Grants e h c lines out → length c.slice ≡ slice_values →
    (n : ℕ) → h.rec.granted + c.cycles - h.rec.spent < n → out ≡ grant_lines e n c.cycles h
grants_print e (last is none) size zero l = absurd (omega arith)
grants_print e (next is some rest) size zero l = absurd (omega arith)
grants_print e {h} {c} (last met none) size (suc n) l =
    let is = own_report {e = e} met in
    let a = alike e h c.cycles c.slice (replicate slice_values (pos 0)) (size ∙ sym (length-replicate slice_values (pos 0))) in
    let full = ap is_full (ap (λ (x : GrantReply). x.outcome) (sym a.reply)) ∙ follows-none _ _ (sym is.next ∙ none) in
    shows-text is.shows ∙ a.lines ∙ sym (append-nil _) ∙ sym (lines-last e n c.cycles h full)
grants_print e {h} {c} (next met some rest) size (suc n) l =
    let is = own_report {e = e} met in
    let a = alike e h c.cycles c.slice (replicate slice_values (pos 0)) (size ∙ sym (length-replicate slice_values (pos 0))) in
    let full = ap is_full (ap (λ (x : GrantReply). x.outcome) (sym a.reply)) ∙ (follows-some _ _ _ (sym is.next ∙ some)).0 in
    let zero-cycles = (follows-some _ _ _ (sym is.next ∙ some)).1 in
    let on = is.progress (follows-some _ _ _ (sym is.next ∙ some)).0 in
    let later = grants_print e rest (is.size ∙ size) n (omega (arith, l, on.spends, on.within, on.granted, zero-cycles)) in
    let same = is.rec ∙ ap (λ (x : GrantReply). x.rec) a.reply in
    let tail = rw (same, zero-cycles, is.memory ∙ a.memory) at later in
    rw (shows-text is.shows ∙ a.lines, tail) (sym (lines_next e n c.cycles h full))

-- LOAD, THEN START
module _ (p : Parameters) (fit : Fit p) {image : List ℕ} {memory : Memory} (sizes : Sizes p image memory) where
  words_count : length image ≡ 4 * p.t
  words_count = sizes.words ∙ rw (le-leb p.t max_instructions (limits p fit).t-high)

  memory-sized : Sized p memory
  memory-sized =
      record {
        register-count = sizes.register-count ∙ rw (le-leb p.n max_registers (limits p fit).n-high);
        cell-count = sizes.cell-count ∙ rw (le-leb p.s max_cells (limits p fit).s-high);
      }

-- The parameters' checks come first.
parameters-refuse : (p : Parameters) (text old : List ℕ) (k : ℕ) → refusal_of (parameter_checks p) ≡ suc k → load_reply p text old ≡ load.Refused (suc k) 0
unfolding load_checks
parameters-refuse p text old k h = load-refused-first p text old k (refusal-first (parameter_checks p) _ (λ e. omega (arith, h, e)) ∙ h)

-- What the image held before does not matter, nor its length where the parameters are refused.
load-alike : (p : Parameters) (text image : List ℕ) {memory : Memory} → Sizes p image memory →
    load_reply p text image ≡ load_reply p text (replicate (4 * p.t) 0)
unfolding load_reply load_checks
load-alike p text image sizes = go (refusal_of (parameter_checks p)) refl
  where
    checks : (old : List ℕ) → load_checks p text old ≡ parameter_checks p ++ (6 unless (eqb (length old) (4 * p.t)) ∷ 7 unless (leb (length text) max_text) ∷ [])
    checks old = refl

    go : (k : ℕ) → refusal_of (parameter_checks p) ≡ k → load_reply p text image ≡ load_reply p text (replicate (4 * p.t) 0)
    go zero h =
        let same = words_count p h sizes ∙ sym (length-replicate {A = ℕ} (4 * p.t) 0) in
        rw (load_reply, checks image, checks (replicate (4 * p.t) 0), same)
    go (suc k) h = parameters-refuse p text image k h ∙ sym (parameters-refuse p text (replicate (4 * p.t) 0) k h)

-- An accepted load passed them.
accepted-fit : (p : Parameters) (text old : List ℕ) (n : ℕ) → load_reply p text old ≡ load.Accepted n → Fit p
accepted-fit p text old n h = go (refusal_of (parameter_checks p)) refl
  where
    go : (k : ℕ) → refusal_of (parameter_checks p) ≡ k → refusal_of (parameter_checks p) ≡ 0
    go zero e = e
    go (suc k) e = let r = parameters-refuse p text old k e in absurd (let z : ◌≡◌ {A = ℕ} 0 1 = cc in omega arith)

-- What registers and data cells held before does not matter.
record Same (x y : Started) : Type 0 where
  reply : x.reply ≡ y.reply
  memory : x.reply.refusal ≡ 0 → x.memory ≡ y.memory

module _ (e : Environment) (m : Memory) where
  abbrev p : Parameters
  p = e.parameters

  checks-alike : Sized p m → start_checks e m ≡ start_checks e (fresh_memory p)
  unfolding start_checks
  checks-alike n = grind (arith, common_steps)

  start-alike : Sized p m → Same (started e m) (started e (fresh_memory p))
  unfolding started
  start-alike n = go (refusal_of (start_checks e m)) refl
    where
      go : (k : ℕ) → refusal_of (start_checks e m) ≡ k → Same (started e m) (started e (fresh_memory p))
      go zero h = let z = ap refusal_of (sym (checks-alike n)) ∙ h in rw (started, h, z) (record { reply = refl; memory = λ q. refl })
      go (suc k) h = let z = ap refusal_of (sym (checks-alike n)) ∙ h in rw (started, h, z) (record { reply = refl; memory = λ q. absurd (omega arith) })

  pub start-fresh : (started e m).reply.refusal ≡ 0 → (started e m).reply.rec ≡ fresh_record p
  unfolding started
  start-fresh = search rules

-- A start that is refused, and one that is not.
pub start-stops : (e : Environment) (s : Started) → eqb s.reply.refusal 0 ≡ false → start_lines e s ≡ start_line s.reply.refusal
start-stops e s h = search rules

pub start-goes : (e : Environment) (s : Started) → s.reply.refusal ≡ 0 → start_lines e s ≡ grant_lines e (suc first_grant) first_grant (held_after_start s)
start-goes e s q = rw q

-- THE RUN
module _ (par text input : List ℕ) where
  abbrev chosen : Parameters
  chosen = settings par

  -- What the program is run in, if its text loads.
  abbrev pub loaded_in : Environment
  loaded_in = environment_of chosen (image_of chosen text) input

  abbrev begun : Started
  begun = started loaded_in (fresh_memory chosen)

  pub printed-refused : (k i : ℕ) → load_reply chosen text (replicate (4 * chosen.t) 0) ≡ load.Refused k i → printed par text input ≡ refusal_line k i
  unfolding printed
  printed-refused k i h = rw (printed, h)

  pub printed-loaded : (n : ℕ) → load_reply chosen text (replicate (4 * chosen.t) 0) ≡ load.Accepted n → printed par text input ≡ start_lines loaded_in begun
  unfolding printed
  printed-loaded n h = rw (printed, h)

  module _ {image : List ℕ} {memory : Memory} (sizes : Sizes chosen image memory) where
    -- Start, which is lent no input, on the image that was loaded.
    same-reply : (n : ℕ) → load_reply chosen text image ≡ load.Accepted n → {image₁ : List ℕ} → image₁ ≡ image_of chosen text →
        Same (started (environment_of chosen image₁ []) memory) begun
    same-reply n e q =
        let fit = accepted-fit chosen text image n e in
        rw (q, input-unread loaded_in memory) (start-alike loaded_in memory (memory-sized chosen fit sizes))

    module _ {lines : List ℕ} {r : Report} {image₁ lines₁ : List ℕ} {memory₁ : Memory}
        (is : OpenIs chosen text image memory lines r image₁ memory₁ lines₁) where
      abbrev By : LoadReply → Type 0
      By l = OpenBy chosen text image memory lines l r image₁ memory₁ lines₁

      abbrev loaded : LoadReply
      loaded = load_reply chosen text image

      refused-prints : r.next ≡ None → take r.count lines₁ ≡ printed par text input
      refused-prints none = go loaded refl is.image is.by
        where
          go : (l : LoadReply) → loaded ≡ l → image₁ ≡ image_after chosen text image l → By l → take r.count lines₁ ≡ printed par text input
          go (load.Refused k i) e q b = shows-text b.shows ∙ sym (printed-refused k i (sym (load-alike chosen text image sizes) ∙ e))
          go (load.Accepted n) e q b =
              let number = ap (λ (x : StartReply). x.refusal) (same-reply n e q).reply in
              let stops = ap (λ (k : ℕ). eqb k 0) (sym number) ∙ follows-none _ _ (sym b.next ∙ none) in
              shows-text b.shows
              ∙ ap start_line number
              ∙ sym (start-stops loaded_in begun stops)
              ∙ sym (printed-loaded n (sym (load-alike chosen text image sizes) ∙ e))

      granted-prints : {cycles : ℕ} → r.next ≡ Some cycles → {values : List ℤ} → length values ≡ slice_values → {out : List ℕ} →
          Grants (environment_of chosen image₁ input) (record { rec = r.rec; memory = memory₁ }) (as_call cycles values) lines₁ out →
          take r.count lines₁ ++ out ≡ printed par text input
      granted-prints some size {out} chain = go loaded refl is.image is.by
        where
          go : (l : LoadReply) → loaded ≡ l → image₁ ≡ image_after chosen text image l → By l → take r.count lines₁ ++ out ≡ printed par text input
          go (load.Refused k i) e q b = let z : ◌≡◌ {A = Option ℕ} None (Some _) = sym b.next ∙ some in cc
          go (load.Accepted n) e q b =
              let lent = environment_of chosen image₁ [] in
              let same = same-reply n e q in
              let none = eqb-true (started lent memory).reply.refusal 0 (follows-some _ _ _ (sym b.next ∙ some)).0 in
              let number = ap (λ (x : StartReply). x.refusal) (sym same.reply) ∙ none in
              let first = (follows-some _ _ _ (sym b.next ∙ some)).1 in
              let fresh = b.rec ∙ start-fresh lent memory none in
              let spent = ap (λ (x : Record). x.spent) fresh in
              let given = ap (λ (x : Record). x.granted) fresh in
              let lines = grants_print (environment_of chosen image₁ input) chain size (suc first_grant) (omega (arith, first, spent, given)) in
              let rec = b.rec ∙ ap (λ (x : StartReply). x.rec) same.reply in
              let all = rw (q, first, rec, b.memory ∙ same.memory none) at lines in
              ap (λ (front : List ℕ). front ++ out) (shows-text b.shows ∙ ap start_line none)
              ∙ all
              ∙ sym (start-goes loaded_in begun number)
              ∙ sym (printed-loaded n (sym (load-alike chosen text image sizes) ∙ e))

    -- Every run, whatever the buffers held before, writes exactly what document 01 says.
    pub run-prints : {values : List ℤ} → length values ≡ slice_values → {lines out : List ℕ} → Run chosen text input image memory values lines out →
        out ≡ printed par text input
    run-prints size (refused is none) = refused-prints is none
    run-prints size (goes is some chain) = granted-prints is some size chain
