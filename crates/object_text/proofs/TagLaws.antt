-- Reading the first lines of a tag.
use Rattle.std.proofs.Common.{◌≡◌, ℕ, true, List, [], ◌∷◌, ◌++◌, Result, Ok, refl, sym, ap, subst, ◌∙◌, append_assoc, arith}
use Rattle.std.specs.Prelude.{codes}
use Rattle.std.specs.List.{list_all}
use Rattle.std.proofs.lemmas.List.{append-nil}
use Rattle.grammar.specs.Grammar.{AllBytes}
use Rattle.grammar.specs.Readers.{Reads, ReadsAll, HasText, Then, then_all, then_at, Nothing, nothing_at, Word, valued_at, Run, run_at, Literal, literal_at}
use Rattle.grammar.specs.Keywords.{may_of, value_of}
use Rattle.grammar.proofs.Keywords.{keywords, value_text}
use Rattle.grammar.proofs.Laws.{nothing_reads, ok_is, then_reads, then_reads_all}
use Rattle.grammar.proofs.FieldLaws.{literal_has, literal_reads, reads_all_same, reads_same}
use Rattle.grammar.proofs.Passing.{run_has, run_reads}
use Rattle.grammar.proofs.Words.{valued_reads, word_has}
use Rattle.ident_text.specs.Ids.{id_from}
use Rattle.ident_text.proofs.IdentLaws.{has_then, nothing_has}
use Rattle.ident_text.proofs.IdLaws.{id_has, id_reads}
use Rattle.seq_base.specs.Ids.{SpellsId}
use Rattle.object_text.specs.declared.object.Kind.{Kind}
use Rattle.object_text.specs.Objects.{kind_text}
use Rattle.object_text.specs.Commits.{is_in_line, line}
use Rattle.object_text.specs.ReadCommits.{keyed_from}
use Rattle.object_text.specs.ReadObjects.{kinds}
use Rattle.object_text.specs.Store.{tagged_from}
use Rattle.object_text.specs.Tags.{IsTag}
use Rattle.object_text.proofs.CommitLaws.{Keyed, keyed_reads}
use Rattle.object_text.proofs.ObjectLaws.{kind_value, kinds_have}

object_key : AllBytes (codes "object ")
object_key = (omega arith, (omega arith, (omega arith, (omega arith, (omega arith, (omega arith, (omega arith, tt)))))))

type_key : AllBytes (codes "type ")
type_key = (omega arith, (omega arith, (omega arith, (omega arith, (omega arith, tt)))))

tag_key : AllBytes (codes "tag ")
tag_key = (omega arith, (omega arith, (omega arith, (omega arith, tt))))

abbrev Kinds : Kind → List ℕ → Type 0
Kinds = Word (value_of kinds) 10

kinds_read : Reads Kinds (valued_at (may_of kinds) (value_of kinds) 10)
kinds_read = valued_reads (may_of kinds) (value_of kinds) 10 (keywords 10 kinds (omega arith) refl refl)

some_kind : HasText Kinds
some_kind = word_has (may_of kinds) (value_of kinds) 10 (keywords 10 kinds (omega arith) refl refl)

abbrev AtName : List ℕ → List ℕ → List ℕ → Type 0
AtName id = Then (Run is_in_line 10) (λ _. Nothing id)

abbrev AtTag : List ℕ → List ℕ → List ℕ → Type 0
AtTag id = Then (Literal (codes "tag ")) (λ _. AtName id)

abbrev AtKind : List ℕ → List ℕ → List ℕ → Type 0
AtKind id = Then Kinds (λ _. AtTag id)

abbrev AtType : List ℕ → List ℕ → List ℕ → Type 0
AtType id = Then (Literal (codes "type ")) (λ _. AtKind id)

abbrev Parts : List ℕ → List ℕ → Type 0
Parts = Then (Keyed (codes "object ") SpellsId) AtType

names_have : (id : List ℕ) → HasText (AtName id)
names_have id = has_then (Run is_in_line 10) (λ _. Nothing id) (run_has is_in_line 10 (omega arith)) (λ _. nothing_has id)

tags_have : (id : List ℕ) → HasText (AtTag id)
tags_have id = has_then (Literal (codes "tag ")) (λ _. AtName id) (literal_has (codes "tag ") tag_key) (λ _. names_have id)

kinds_have_texts : (id : List ℕ) → HasText (AtKind id)
kinds_have_texts id = has_then Kinds (λ _. AtTag id) some_kind (λ _. tags_have id)

types_have : (id : List ℕ) → HasText (AtType id)
types_have id = has_then (Literal (codes "type ")) (λ _. AtKind id) (literal_has (codes "type ") type_key) (λ _. kinds_have_texts id)

parts_read : Reads Parts tagged_from
unfolding tagged_from
parts_read =
    then_reads (Keyed (codes "object ") SpellsId) AtType (keyed_from (codes "object ") id_from)
    (λ id. then_at (literal_at (codes "type ")) (λ _. then_at (valued_at (may_of kinds) (value_of kinds) 10) (λ _. then_at (literal_at (codes "tag ")) (λ _. then_at (run_at is_in_line 10) (λ _. nothing_at id)))))
    (keyed_reads (codes "object ") SpellsId id_from object_key id_reads id_has)
    (λ id _ _. then_reads (Literal (codes "type ")) (λ _. AtKind id) (literal_at (codes "type "))
    (λ _. then_at (valued_at (may_of kinds) (value_of kinds) 10) (λ _. then_at (literal_at (codes "tag ")) (λ _. then_at (run_at is_in_line 10) (λ _. nothing_at id))))
    (literal_reads (codes "type ") type_key)
    (λ _ _ _. then_reads Kinds (λ _. AtTag id) (valued_at (may_of kinds) (value_of kinds) 10) (λ _. then_at (literal_at (codes "tag ")) (λ _. then_at (run_at is_in_line 10) (λ _. nothing_at id))) kinds_read
    (λ _ _ _. then_reads (Literal (codes "tag ")) (λ _. AtName id) (literal_at (codes "tag ")) (λ _. then_at (run_at is_in_line 10) (λ _. nothing_at id)) (literal_reads (codes "tag ") tag_key)
    (λ _ _ _. then_reads (Run is_in_line 10) (λ _. Nothing id) (run_at is_in_line 10) (λ _. nothing_at id) (run_reads is_in_line 10 (omega arith) refl) (λ _ _ _. nothing_reads id) (λ _ _ _. nothing_has id))
    (λ _ _ _. names_have id))
    (λ _ _ _. tags_have id))
    (λ _ _ _. kinds_have_texts id))
    (λ id _ _. types_have id)

-- the first lines of a tag
pub record AreTagLines (id text : List ℕ) : Type 0 where
  pub digits : List ℕ
  pub kind : Kind
  pub name : List ℕ
  pub is_id : SpellsId id digits
  pub is_name : list_all is_in_line name ≡ true
  pub text_is : text ≡ line (codes "object " ++ digits) ++ line (codes "type " ++ kind_text kind) ++ line (codes "tag " ++ name)

grouped : (o t g object kind name : List ℕ)
    → line (o ++ object) ++ (t ++ ((kind ++ 10 ∷ []) ++ (g ++ ((name ++ 10 ∷ []) ++ [])))) ≡ line (o ++ object) ++ line (t ++ kind) ++ line (g ++ name)
grouped o t g object kind name = simp (append_assoc, append-nil)

regroup : (object kind name : List ℕ)
    → line (codes "object " ++ object) ++ (codes "type " ++ ((kind ++ 10 ∷ []) ++ (codes "tag " ++ ((name ++ 10 ∷ []) ++ [])))) ≡ line (codes "object " ++ object) ++ line (codes "type " ++ kind) ++ line (codes "tag " ++ name)
regroup object kind name = grouped (codes "object ") (codes "type ") (codes "tag ") object kind name

to_lines : (id text : List ℕ) → Parts id text → AreTagLines id text
to_lines id text g =
    let t = g.4 in
    let k = t.4 in
    let a = k.4 in
    let n = a.4 in
    let same : id ≡ g.0 = n.4.0 in
    let kind : k.3.0 ≡ kind_text k.0 = value_text kind_text kinds kinds_have k.3.0 k.0 k.3.1 in
    let e1 = g.3.2 in
    let e2 = t.3 in
    let e3 : k.1 ≡ kind_text k.0 ++ 10 ∷ [] = k.3.2 ∙ ap (λ (w : List ℕ). w ++ 10 ∷ []) kind in
    let e4 = a.3 in
    let e5 = n.3.1 in
    let e6 = n.4.1 in
    let whole : text ≡ g.1 ++ (t.1 ++ (k.1 ++ (a.1 ++ (n.1 ++ n.2)))) =
    g.5 ∙ ap (λ (x : List ℕ). g.1 ++ x) (t.5 ∙ ap (λ (x : List ℕ). t.1 ++ x) (k.5 ∙ ap (λ (x : List ℕ). k.1 ++ x) (a.5 ∙ ap (λ (x : List ℕ). a.1 ++ x) n.5))) in
    record {
      digits = g.3.0;
      kind = k.0;
      name = n.0;
      is_id = subst (λ (i : List ℕ). SpellsId i g.3.0) (sym same) g.3.1;
      is_name = n.3.0;
      text_is = whole ∙ rw (e1, e2, e3, e4, e5, e6) (regroup g.3.0 (kind_text k.0) n.0);
    }

from_lines : (id text : List ℕ) → AreTagLines id text → Parts id text
from_lines id text h =
    let name : List ℕ = (h.name ++ 10 ∷ []) ++ [] in
    let tag : List ℕ = codes "tag " ++ name in
    let kind : List ℕ = (kind_text h.kind ++ 10 ∷ []) ++ tag in
    let type : List ℕ = codes "type " ++ kind in (
      id,
      line (codes "object " ++ h.digits),
      type,
      (h.digits, h.is_id, refl),
      (
        tt,
        codes "type ",
        kind,
        refl,
        (
          h.kind,
          kind_text h.kind ++ 10 ∷ [],
          tag,
          (kind_text h.kind, kind_value h.kind, refl),
          (tt, codes "tag ", name, refl, (h.name, h.name ++ 10 ∷ [], [], (h.is_name, refl), (refl, refl), refl), refl),
          refl,
        ),
        refl,
      ),
      h.text_is ∙ sym (regroup h.digits (kind_text h.kind) h.name),
    )

pub tag_reads : Reads AreTagLines tagged_from
tag_reads = reads_same Parts AreTagLines tagged_from to_lines from_lines parts_read

-- ---- all of a tag's content, of which what stands behind the first lines is not read

abbrev WithRest : List ℕ → List ℕ → Type 0
WithRest = Then AreTagLines (λ id found _. found ≡ id)

to_tag : (id text : List ℕ) → WithRest id text → IsTag id text
to_tag id text g =
    let t = g.3 in
    subst (λ (i : List ℕ). IsTag i text) (sym g.4)
    (record { digits = t.digits; kind = t.kind; name = t.name; rest = g.2; is_id = t.is_id; is_name = t.is_name; text_is = g.5 ∙ ap (λ (l : List ℕ). l ++ g.2) t.text_is })

from_tag : (id text : List ℕ) → IsTag id text → WithRest id text
from_tag id text t = (
  id,
  line (codes "object " ++ t.digits) ++ line (codes "type " ++ kind_text t.kind) ++ line (codes "tag " ++ t.name),
  t.rest,
  record { digits = t.digits; kind = t.kind; name = t.name; is_id = t.is_id; is_name = t.is_name; text_is = refl },
  refl,
  t.text_is,
)

abbrev pub named_from : List ℕ → Result (List ℕ) ℕ
named_from = then_all tagged_from (λ id _. Ok id)

pub named_reads : ReadsAll IsTag named_from
named_reads =
    reads_all_same WithRest IsTag named_from to_tag from_tag
    (then_reads_all AreTagLines (λ id found _. found ≡ id) tagged_from (λ id _. Ok id) tag_reads (λ id _ _. record { takes = λ _ x e. ok_is x id (sym e); again = λ x _ e. ap Ok (sym e); stops = λ _ left e. absurd cc }) (λ id _ _. (id, [], tt, refl)))
