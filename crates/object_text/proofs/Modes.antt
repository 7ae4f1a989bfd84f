-- The modes' words.
use Rattle.std.proofs.Common.{◌≡◌, ℕ, List, Option, Some, None, refl, arith, ap, ◌∙◌}
use Rattle.std.specs.Prelude.{MatchOption}
use Rattle.grammar.specs.Keywords.{value_of, may_of}
use Rattle.grammar.specs.Readers.{IsWord}
use Rattle.grammar.proofs.Keywords.{HaveTexts, keywords, value_none}
use Rattle.seq_base.specs.declared.mode.Mode.{Mode}
use Rattle.seq_base.specs.declared.mode.Mode.TheVariants.{File, Exec, Link, Gitlink, Folder}
use Rattle.seq_base.specs.Modes.{mode_text}
use Rattle.object_text.specs.ReadTrees.{modes}

pub mode_value : (m : Mode) → value_of modes (mode_text m) ≡ Some m
mode_value File = refl
mode_value Exec = refl
mode_value Link = refl
mode_value Gitlink = refl
mode_value Folder = refl

pub modes_have : HaveTexts mode_text modes
modes_have = (refl, (refl, (refl, (refl, (refl, tt)))))

pub is_mode : IsWord (may_of modes) (value_of modes) 32
is_mode = keywords 32 modes (omega arith) refl refl

-- what reading a mode tells
pub mode_read : (w : List ℕ) (r : Option Mode) → MatchOption r ((m : Mode) → w ≡ mode_text m → ⊥) (λ m. w ≡ mode_text m) → value_of modes w ≡ r
mode_read w None h = value_none mode_text modes modes_have w h
mode_read w (Some m) h = ap (value_of modes) h ∙ mode_value m
