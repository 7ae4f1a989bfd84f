-- What is read of a todo is what its lines come to, one after another.
use Rattle.std.proofs.Common.{◌≡◌, ℕ, ◌+◌, Bool, true, false, List, [], ◌∷◌, ◌++◌, length, refl, sym, ap, ◌∙◌, arith, ⊎_elim}
use Rattle.std.specs.Prelude.{◌||◌, not, Some, Result, Ok, Err}
use Rattle.std.specs.Result.{result_err, result_map_both}
use Rattle.std.specs.Str.Lines.{lines}
use Rattle.std.proofs.lemmas.Bool.{cases_Bool, cond-false, MatchBool-at_true, MatchBool-at_false}
use Rattle.todo_text.specs.declared.line.Line.{Line}
use Rattle.todo_text.specs.declared.todo_kind.TodoKind.{TodoKind}
use Rattle.todo_text.specs.declared.fault.TodoFault.{TodoFault}
use Rattle.todo_text.specs.declared.fault.TodoFault.TheVariants.{Bad, Memory}
use Rattle.todo_text.specs.Kinds.{first_kind}
use Rattle.todo_text.specs.Spells.{Spells}
use Rattle.todo_text.specs.ReadTodo.{TodoGives, led_by, line_in, placed, todo_of}
use Rattle.todo_text.specs.Todos.{IsTodoReading, SpellAll, counts, earlier_of, is_comment, may_stand}
use Rattle.todo_text.proofs.KindLaws.{first_kind_is}
use Rattle.todo_text.proofs.LineLaws.{line_complete}
use Rattle.todo_text.proofs.TodoLemmas.{todo_bad, todo_comment, todo_line}

in_place : (earlier : Bool) (text : List ℕ) (l : Line) → Spells l text → may_stand earlier l ≡ true → line_in earlier text ≡ Ok l
unfolding line_in
in_place earlier text l spells may = ap (placed earlier) (line_complete text l spells) ∙ cond-false _ _ _ (ap not may)

none_left : (earlier : Bool) (n : ℕ) → todo_of earlier n [] ≡ Ok []
unfolding todo_of
none_left earlier n = refl

complete : (texts : List (List ℕ)) (earlier : Bool) (n : ℕ) (ls : List Line) → SpellAll earlier texts ls → todo_of earlier n texts ≡ Ok ls
complete [] earlier n ls h = none_left earlier n ∙ ap (λ (x : List Line). Ok x) (sym h)
complete (text ∷ texts) earlier n ls h =
    ⊎_elim
    (λ yes. todo_comment earlier n text texts yes ∙ complete texts earlier (n + 1) ls (MatchBool-at_true _ _ yes h))
    (λ never.
    let s = MatchBool-at_false _ _ never h in
    let l = s.0 in
    todo_line earlier n text texts l never (in_place earlier text l s.3 s.4)
    ∙ ap (led_by (l ∷ [])) (complete texts (earlier || counts l) (n + 1) s.1 s.5)
    ∙ ap (λ (x : List Line). Ok x) (sym s.2))
    (cases_Bool (is_comment text))

of_error : (r : Result Line TodoKind) (kind : TodoKind) → result_err r ≡ Some kind → r ≡ Err kind
of_error (Ok l) kind e = let no_way : ⊥ = cc in absurd no_way
of_error (Err k) kind e = cc

first_bad : (good : List (List ℕ)) (earlier : Bool) (n : ℕ) (bad : List ℕ) (after : List (List ℕ)) (before : List Line) (kind : TodoKind)
    → SpellAll earlier good before → is_comment bad ≡ false → first_kind (earlier_of earlier before) bad ≡ Some kind
    → todo_of earlier n (good ++ bad ∷ after) ≡ Err (Bad (n + length good) kind)
first_bad [] earlier n bad after before kind spelled never is =
    let none : before ≡ [] = spelled in
    let told : first_kind earlier bad ≡ Some kind = sym (ap (λ (ls : List Line). first_kind (earlier_of earlier ls) bad) none) ∙ is in
    let same : n ≡ n + 0 = omega arith in
    todo_bad earlier n bad after kind never (of_error (line_in earlier bad) kind (sym (first_kind_is earlier bad) ∙ told))
    ∙ ap (λ (m : ℕ). Err (Bad m kind)) same
first_bad (text ∷ good) earlier n bad after before kind spelled none is =
    let texts = good ++ bad ∷ after in
    let count : n + 1 + length good ≡ n + length (text ∷ good) = omega arith in
    ⊎_elim
    (λ yes.
    todo_comment earlier n text texts yes
    ∙ first_bad good earlier (n + 1) bad after before kind (MatchBool-at_true _ _ yes spelled) none is
    ∙ ap (λ (m : ℕ). Err (Bad m kind)) count)
    (λ never.
    let s = MatchBool-at_false _ _ never spelled in
    let l = s.0 in
    let told : first_kind (earlier_of (earlier || counts l) s.1) bad ≡ Some kind = sym (ap (λ (ls : List Line). first_kind (earlier_of earlier ls) bad) s.2) ∙ is in
    todo_line earlier n text texts l never (in_place earlier text l s.3 s.4)
    ∙ ap (led_by (l ∷ [])) (first_bad good (earlier || counts l) (n + 1) bad after s.1 kind s.5 none told)
    ∙ ap (λ (m : ℕ). Err (Bad m kind)) count)
    (cases_Bool (is_comment text))

reading_gives : (earlier : Bool) (bytes : List ℕ) (r : Result (List Line) TodoFault) → IsTodoReading earlier bytes r
    → TodoGives r (todo_of earlier 1 (lines bytes))
reading_gives earlier bytes (Ok ls) reads = complete (lines bytes) earlier 1 ls reads.0
reading_gives earlier bytes (Err (Bad number kind)) reads =
    let b = reads.0 in
    ap (todo_of earlier 1) b.split ∙ first_bad b.good earlier 1 b.bad b.after b.before kind b.spelled b.no_comment b.kind_is
    ∙ ap (λ (m : ℕ). Err (Bad m kind)) (sym b.number_is)
reading_gives earlier bytes (Err Memory) reads = tt

pub todo_parsed : {V : Type 0} (items : V → List Line) (earlier : Bool) (bytes : List ℕ) (r : Result V TodoFault)
    → IsTodoReading earlier bytes (result_map_both items (λ e. e) r) → TodoGives (result_map_both items (λ e. e) r) (todo_of earlier 1 (lines bytes))
todo_parsed items earlier bytes r reads = reading_gives earlier bytes (result_map_both items (λ e. e) r) reads
