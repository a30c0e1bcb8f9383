-- The cycles that are left for grants. Assumes nothing.
use Rattle.std.proofs.Common.{ℕ, suc, ◌+◌, ◌-◌, Option, Some, None}
use Rattle.session.specs.declared.Report.{Report}
use Rattle.model.specs.declared.Record.{Record}

-- The cycles that are left behind that record, where a grant of `next` follows, and one; none where no grant follows.
abbrev left_of : Record → (next : Option ℕ) → ℕ
left_of r None = 0
left_of r (Some cycles) = suc (r.granted + cycles - r.spent)

-- The cycles that are left for the grants that follow, and one; none where no grant follows.
abbrev pub left : Report → ℕ
left r = left_of r.rec r.next
