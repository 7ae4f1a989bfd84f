-- What a command stands on, as definitions see it.
use Rattle.seq_model.specs.Basis.{Basis as Definition}
use Rattle.start_checks.specs.declared.basis.Basis.{Basis}

abbrev pub basis_is : Basis → Definition
basis_is basis = record { place = basis.place; settings = basis.config; index = basis.index.items }
