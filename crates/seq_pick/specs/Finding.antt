-- What a pick finds, as definitions see it.
use Rattle.std.specs.Prelude.{◌≡◌, true}
use Rattle.std.specs.List.{list_all}
use Rattle.ident_text.specs.Idents.{is_ident_byte}
use Rattle.index_file.specs.Entries.{IsInOrder}
use Rattle.object_text.specs.Commits.{IsCommitValue}
use Rattle.ref_text.specs.Heads.{IsHeadValue}
use Rattle.seq_model.specs.Pick.{Finding as Definition}
use Rattle.seq_pick.specs.Merging.{merging_is}
use Rattle.seq_pick.specs.declared.picking.Finding.{Finding}

abbrev pub finding_is : Finding → Definition
finding_is f = record { on = f.on; head = f.head; committer = f.committer; merging = merging_is f.merging }

-- what a pick finds can be made
pub record IsFound (f : Finding) : Type 0 where
  pub on : IsHeadValue f.on
  pub name : list_all is_ident_byte f.committer.name ≡ true
  pub email : list_all is_ident_byte f.committer.email ≡ true
  pub order : IsInOrder f.merging.index.items
  pub commit : IsCommitValue f.merging.commit
