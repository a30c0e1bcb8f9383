-- The kinds by their numbers.
use Rattle.std.specs.Prelude.{ℕ}
use Rattle.model.specs.Words.{register_kind, direct_kind, number_kind}
use Rattle.image.specs.declared.kinds.Kind.{Kind}
use Rattle.image.specs.declared.kinds.Kind.TheVariants.{Head, Register, Direct, Number}

-- "0 head, 1 register, 2 direct cell, 3 number."
abbrev pub number_of_kind : Kind → ℕ
number_of_kind Head = 0
number_of_kind Register = register_kind
number_of_kind Direct = direct_kind
number_of_kind Number = number_kind
