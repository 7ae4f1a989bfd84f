-- A pick whose commit is still to be made, as definitions see it.
use Rattle.std.specs.Prelude.{◌≡◌, true}
use Rattle.std.specs.List.{list_all}
use Rattle.ident_text.specs.declared.ident.Ident.{Ident}
use Rattle.ident_text.specs.Idents.{IsIdent, is_ident_byte}
use Rattle.object_text.specs.Commits.{IsCommitValue}
use Rattle.ref_text.specs.Heads.{IsHeadValue}
use Rattle.seq_base.specs.Words.{Text}
use Rattle.seq_model.specs.Picked.{Prepared as Definition}
use Rattle.seq_pick.specs.declared.committing.Prepared.{Prepared}

abbrev pub prepared_is : Prepared → Definition
prepared_is p = record { on = p.on; head = p.head; committer = p.committer; commit = p.commit; tree = p.tree }

-- the commit can be made
pub record IsReady (p : Prepared) : Type 0 where
  pub on : IsHeadValue p.on
  pub name : list_all is_ident_byte p.committer.name ≡ true
  pub email : list_all is_ident_byte p.committer.email ≡ true
  pub commit : IsCommitValue p.commit

-- some ident has the text
abbrev pub IsSomeIdent : Text → Type 0
IsSomeIdent text = (who : Ident) × IsIdent who text
