-- What lines and files say, one after the other.
use Rattle.std.proofs.Common.{◌≡◌, ℕ, ◌-◌, ◌<◌, List, [], ◌∷◌, length, get_or, take, drop, Option, None, refl, sym, ap, subst, ◌∙◌, arith}
use Rattle.std.specs.Option.{option_or}
use Rattle.std.proofs.lemmas.List.{take_rest}
use Rattle.attr_rules.specs.declared.attribute.MergeAttr.{MergeAttr}
use Rattle.attr_rules.specs.declared.rules.Line.{Line}
use Rattle.attr_rules.specs.Rules.{RuleFile}
use Rattle.attr_rules.specs.MergeAttrs.{LineSays, LinesSay, FileSays, FilesSay}
use Rattle.attr_rules.proofs.Words.{or_none, or_or}

module _ (says : List ℕ → Option MergeAttr) (path : List ℕ) where
  pub lines_more : (rest lines : List Line) (line : Line) (last here now : Option MergeAttr) → 0 < length rest → line ≡ get_or rest 0 line
      → LineSays says path line here
      → now ≡ option_or here last → ((o : Option MergeAttr) → LinesSay says path rest o → LinesSay says path lines (option_or o last))
      → (later : Option MergeAttr) → LinesSay says path (take (length rest - 1) (drop 1 rest)) later → LinesSay says path lines (option_or later now)
  lines_more [] lines line last here now some is h e so_far later k = absurd (omega arith)
  lines_more (l ∷ ls) lines line last here now some is h e so_far later k =
      let behind : LinesSay says path ls later = subst (λ (t : List Line). LinesSay says path t later) (take_rest (l ∷ ls) 1) k in
      let this : LineSays says path l here = subst (λ (x : Line). LineSays says path x here) is h in
      let all : LinesSay says path lines (option_or (option_or later here) last) = so_far (option_or later here) (here, later, this, behind, refl) in
      subst (λ (o : Option MergeAttr). LinesSay says path lines o) (or_or later here last ∙ ap (option_or later) (sym e)) all

  pub lines_end : (rest lines : List Line) (last : Option MergeAttr) → length rest < 1
      → ((o : Option MergeAttr) → LinesSay says path rest o → LinesSay says path lines (option_or o last)) → LinesSay says path lines last
  lines_end [] lines last none so_far = so_far None refl
  lines_end (l ∷ ls) lines last none so_far = absurd (omega arith)

  pub files_more : (rest files : List RuleFile) (file : RuleFile) (first here now : Option MergeAttr) → 0 < length rest → file ≡ get_or rest 0 file
      → FileSays says path file here
      → now ≡ option_or first here → ((o : Option MergeAttr) → FilesSay says path rest o → FilesSay says path files (option_or first o))
      → (others : Option MergeAttr) → FilesSay says path (take (length rest - 1) (drop 1 rest)) others → FilesSay says path files (option_or now others)
  files_more [] files file first here now some is h e so_far others k = absurd (omega arith)
  files_more (f ∷ fs) files file first here now some is h e so_far others k =
      let behind : FilesSay says path fs others = subst (λ (t : List RuleFile). FilesSay says path t others) (take_rest (f ∷ fs) 1) k in
      let this : FileSays says path f here = subst (λ (x : RuleFile). FileSays says path x here) is h in
      let all : FilesSay says path files (option_or first (option_or here others)) = so_far (option_or here others) (here, others, this, behind, refl) in
      subst (λ (o : Option MergeAttr). FilesSay says path files o) (sym (or_or first here others) ∙ ap (λ (o : Option MergeAttr). option_or o others) (sym e)) all

  pub files_end : (rest files : List RuleFile) (first : Option MergeAttr) → length rest < 1
      → ((o : Option MergeAttr) → FilesSay says path rest o → FilesSay says path files (option_or first o)) → FilesSay says path files first
  files_end [] files first none so_far = subst (λ (o : Option MergeAttr). FilesSay says path files o) (or_none first) (so_far None refl)
  files_end (f ∷ fs) files first none so_far = absurd (omega arith)
