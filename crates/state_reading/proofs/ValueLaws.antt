-- Files of one value are recalled.
use Rattle.std.proofs.Common.{◌≡◌, ◌∙◌, ℕ, ◌-◌, Bool, true, false, cond, List, [], ◌∷◌, ◌++◌, length, take, Option, Some, None, refl, sym, ap, subst, length-append, arith}
use Rattle.std.specs.Prelude.{All, codes, unwrap_or}
use Rattle.std.proofs.lemmas.List.Elements.{All-nil}
use Rattle.std.proofs.Math.Seq.{take-append_seam}
use Rattle.grammar.specs.Grammar.{IsFirstBad}
use Rattle.grammar.specs.Readers.{passing_at}
use Rattle.ident_text.specs.declared.ident.Ident.{Ident}
use Rattle.ident_text.specs.AuthorScripts.{IsAuthorScript, script_text}
use Rattle.ident_text.specs.Ids.{id_digits_from, id_from}
use Rattle.object_text.specs.Commits.{line}
use Rattle.seq_base.specs.Ids.{IsId}
use Rattle.seq_base.specs.RefNames.{IsRefName, is_ref_name}
use Rattle.state_text.specs.Controls.{IfThere}
use Rattle.state_text.specs.Texts.{head_name_text, id_line, zeros}
use Rattle.todo_text.specs.declared.line.Line.{Line}
use Rattle.todo_text.specs.Spells.{IsSpelled}
use Rattle.todo_text.specs.Todos.{SpellsTodo, todo_text}
use Rattle.state_reading.specs.Lines.{id_at, read_id}
use Rattle.state_reading.specs.Recalls.{Recalls}
use Rattle.state_reading.specs.Values.{IsAuthor, id_or_zeros, name_at, optional_line, optional_script, without_feed}
use Rattle.state_reading.proofs.KeyLaws.{id_before, id_fits, zeros_id}
use Rattle.state_reading.proofs.TodoLaws.{todo_written}

line_read : (id : List ℕ) → IsId id → id_at (id_line id) ≡ Some id
line_read id is = ap read_id (id_before id (10 ∷ []) is)

pub or_zeros : (o : Option (List ℕ)) → ((id : List ℕ) → o ≡ Some id → IsId id) → IsId (unwrap_or o zeros)
or_zeros None fits = zeros_id
or_zeros (Some id) fits = fits id refl

pub id_recalled : (bytes id : List ℕ) → id ≡ id_or_zeros bytes → Recalls IsId id_line bytes id
id_recalled bytes id e = record {
  fits = subst IsId (sym e) (or_zeros (id_at bytes) (id_fits bytes));
  again = λ y is text. e ∙ ap id_or_zeros text ∙ ap (λ (o : Option (List ℕ)). unwrap_or o zeros) (line_read y is);
}

none_there : id_at [] ≡ None
unfolding id_from id_digits_from passing_at
none_there = refl

optional_read : (o : Option (List ℕ)) → IfThere IsId o → id_at (optional_line o) ≡ o
optional_read None is = none_there
optional_read (Some id) is = line_read id is

if_there : (o : Option (List ℕ)) → ((id : List ℕ) → o ≡ Some id → IsId id) → IfThere IsId o
if_there None fits = tt
if_there (Some id) fits = fits id refl

pub optional_recalled : (bytes : List ℕ) (o : Option (List ℕ)) → o ≡ id_at bytes → Recalls (IfThere IsId) optional_line bytes o
optional_recalled bytes o e = record {
  fits = subst (IfThere IsId) (sym e) (if_there (id_at bytes) (id_fits bytes));
  again = λ y is text. e ∙ ap id_at text ∙ optional_read y is;
}

-- ---- the branch

pub feed_off : (x : List ℕ) → without_feed (line x) ≡ x
feed_off x =
    let n : length (x ++ 10 ∷ []) - 1 ≡ length x = omega (arith, length-append x (10 ∷ [])) in
    ap (λ (k : ℕ). take k (x ++ 10 ∷ [])) n ∙ take-append_seam x (10 ∷ [])

name_fits : (l : List ℕ) → IfThere IsRefName (name_at l)
name_fits l = at (is_ref_name l) refl
  where
    at : (b : Bool) → is_ref_name l ≡ b → IfThere IsRefName (cond b (Some l) None)
    at true named = named
    at false named = tt

name_read : (name : Option (List ℕ)) → IfThere IsRefName name → name_at (without_feed (head_name_text name)) ≡ name
name_read None is = ap name_at (feed_off (codes "detached HEAD")) ∙ refl
name_read (Some name) is =
    let named : is_ref_name name ≡ true = is in
    ap name_at (feed_off name) ∙ ap (λ (b : Bool). cond b (Some name) None) named

pub name_recalled : (bytes : List ℕ) (name : Option (List ℕ)) → name ≡ name_at (without_feed bytes)
    → Recalls (IfThere IsRefName) head_name_text bytes name
name_recalled bytes name e = record {
  fits = subst (IfThere IsRefName) (sym e) (name_fits (without_feed bytes));
  again = λ y is text. e ∙ ap (λ (t : List ℕ). name_at (without_feed t)) text ∙ name_read y is;
}

-- ---- lines of a todo

pub lines_recalled : (bytes : List ℕ) (ls : List Line) → SpellsTodo true bytes ls
    → ((others : List Line) → SpellsTodo true bytes others → others ≡ ls) → All IsSpelled ls → Recalls (All IsSpelled) todo_text bytes ls
lines_recalled bytes ls spells only fits = record {
  fits = fits;
  again = λ ys is text. sym (only ys (let P : List ℕ → Type 0 = λ t. SpellsTodo true t ys in subst P (sym text) (todo_written ys is)));
}

pub no_lines_recalled : (bytes : List ℕ) → ((others : List Line) → SpellsTodo true bytes others → ⊥) → Recalls (All IsSpelled) todo_text bytes []
no_lines_recalled bytes none = record {
  fits = All-nil IsSpelled;
  again = λ ys is text. absurd (none ys (let P : List ℕ → Type 0 = λ t. SpellsTodo true t ys in subst P (sym text) (todo_written ys is)));
}

-- ---- the author

script_is : (ident : Ident) (bytes : List ℕ) → IsAuthor ident → bytes ≡ script_text ident → IsAuthorScript ident bytes
script_is ident bytes is text = record { value = is.value; fits = is.fits; text_is = text }

pub author_recalled : (bytes : List ℕ) (ident : Ident) → IsAuthorScript ident bytes → ((other : Ident) → IsAuthorScript other bytes → other ≡ ident)
    → Recalls (IfThere IsAuthor) optional_script bytes (Some ident)
author_recalled bytes ident script only = record {
  fits = record { value = script.value; fits = script.fits };
  again = λ y is text. same y is text;
}
  where
    same : (y : Option Ident) → IfThere IsAuthor y → bytes ≡ optional_script y → Some ident ≡ y
    same None is text = let none : [] ≡ script_text ident = sym text ∙ script.text_is in absurd cc
    same (Some other) is text = ap Some (sym (only other (script_is other bytes is text)))

pub no_author_recalled : (bytes : List ℕ) (at : ℕ) → IsFirstBad IsAuthorScript bytes at → Recalls (IfThere IsAuthor) optional_script bytes None
no_author_recalled bytes at bad = record { fits = tt; again = λ y is text. same y is text }
  where
    same : (y : Option Ident) → IfThere IsAuthor y → bytes ≡ optional_script y → None ≡ y
    same None is text = refl
    same (Some other) is text = absurd (bad.no_text other (script_is other bytes is text))
