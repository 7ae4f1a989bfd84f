-- The kinds of lines whose messages a squash chain takes up (git-rebase(1), "squash" and "fixup").
use Rattle.std.specs.Prelude.{Bool, true, false}
use Rattle.message_text.specs.declared.chain.ChainKind.{ChainKind}
use Rattle.message_text.specs.declared.chain.ChainKind.TheVariants.{First, Squash, Fixup, Keep, KeepEdit}

abbrev pub is_first : ChainKind → Bool
is_first First = true
is_first Squash = false
is_first Fixup = false
is_first Keep = false
is_first KeepEdit = false

abbrev pub is_squash : ChainKind → Bool
is_squash First = false
is_squash Squash = true
is_squash Fixup = false
is_squash Keep = false
is_squash KeepEdit = false

abbrev pub is_fixup : ChainKind → Bool
is_fixup First = false
is_fixup Squash = false
is_fixup Fixup = true
is_fixup Keep = false
is_fixup KeepEdit = false
