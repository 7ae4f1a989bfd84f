-- The content of a tag that names an object (git-mktag(1)): its first lines. What stands behind them is not read.
use Rattle.std.specs.Prelude.{◌≡◌, true, ◌++◌, codes}
use Rattle.std.specs.List.{list_all}
use Rattle.seq_base.specs.Words.{Id, Name, Text}
use Rattle.seq_base.specs.Ids.{SpellsId}
use Rattle.object_text.specs.declared.object.Kind.{Kind}
use Rattle.object_text.specs.Objects.{kind_text}
use Rattle.object_text.specs.Commits.{is_in_line, line}

-- the lines `object <hex>`, `type <kind>` and `tag <name>`, of which the first names the object
pub record IsTag (id : Id) (bytes : Text) : Type 0 where
  pub digits : Text
  pub kind : Kind
  pub name : Name
  pub rest : Text
  pub is_id : SpellsId id digits
  pub is_name : list_all is_in_line name ≡ true
  pub text_is : bytes ≡ line (codes "object " ++ digits) ++ line (codes "type " ++ kind_text kind) ++ line (codes "tag " ++ name) ++ rest
