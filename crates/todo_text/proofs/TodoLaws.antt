-- What the bytes of a todo spell is what is read of them.
use Rattle.std.proofs.Common.{◌≡◌, ℕ, ◌+◌, ◌-◌, Bool, true, false, cond, List, [], ◌∷◌, ◌++◌, length, get_or, take, drop, refl, sym, ap, ◌∙◌, subst, arith, ⊎_elim}
use Rattle.std.specs.Prelude.{◌||◌, ◌==◌, not, All, IfOk, MatchBool, Result, Ok, Err}
use Rattle.std.specs.List.{list_all, slice_split, onto_first}
use Rattle.std.specs.Result.{result_err, result_map_both}
use Rattle.std.specs.Str.Lines.{lines, lines_of_parts, strip_carriage_return}
use Rattle.std.proofs.lemmas.Bool.{cases_Bool, cond-true, cond-false, and_parts, and_from, not-false, true≢false, false≢true, MatchBool-at_true, MatchBool-at_false}
use Rattle.std.proofs.lemmas.List.{take-append-drop}
use Rattle.std.proofs.lemmas.List.Folds.{list_all-append}
use Rattle.std.proofs.lemmas.List.Elements.{All-nil, All-cons}
use Rattle.std.proofs.lemmas.List.Splits.{slice_split-cons_yes, slice_split-cons_no}
use Rattle.todo_text.specs.declared.line.Line.{Line}
use Rattle.todo_text.specs.declared.todo_kind.TodoKind.{TodoKind}
use Rattle.todo_text.specs.declared.todo_kind.TodoKind.TheVariants as fault
use Rattle.todo_text.specs.declared.fault.TodoFault.{TodoFault}
use Rattle.todo_text.specs.declared.fault.TodoFault.TheVariants.{Bad, Memory}
use Rattle.todo_text.specs.Spells.{HasNoFeed, Spells, IsSpelled}
use Rattle.todo_text.specs.Todos.{is_comment, counts, may_stand, SpellAll, IsFirstBad, IsTodoReading}
use Rattle.todo_text.specs.ReadLine.{line_of}
use Rattle.todo_text.specs.ReadTodo.{placed, line_in, led_by, todo_of, TodoGives}
use Rattle.todo_text.proofs.ArgumentLaws.{past, ok_same}
use Rattle.todo_text.proofs.KindLaws.{first_kind_is}
use Rattle.todo_text.proofs.LineLaws.{line_sound, line_complete}
use Rattle.todo_text.proofs.LineLemmas.{is_feed}
use Rattle.todo_text.proofs.TodoLemmas.{todo_comment, todo_line, todo_bad}

-- ---- no line holds a line feed

abbrev NoFeeds : List (List ℕ) → Type 0
NoFeeds [] = Unit {0}
NoFeeds (t ∷ ts) = HasNoFeed t × NoFeeds ts

onto_feeds : (b : ℕ) (parts : List (List ℕ)) → is_feed b ≡ false → NoFeeds parts → NoFeeds (onto_first b parts)
onto_feeds b [] h feeds = (and_from (not (b == 10)) true (ap not h) refl, tt)
onto_feeds b (p ∷ ps) h feeds = (and_from (not (b == 10)) _ (ap not h) feeds.0, feeds.1)

part_feeds : (bytes : List ℕ) → NoFeeds (slice_split is_feed bytes)
part_feeds [] = (refl, tt)
part_feeds (b ∷ bs) =
    ⊎_elim
    (λ yes. subst NoFeeds (sym (slice_split-cons_yes is_feed b bs yes)) (refl, part_feeds bs))
    (λ never. subst NoFeeds (sym (slice_split-cons_no is_feed b bs never)) (onto_feeds b (slice_split is_feed bs) never (part_feeds bs)))
    (cases_Bool (is_feed b))

pub parts_feed : (a b : List ℕ) → HasNoFeed (a ++ b) → HasNoFeed a × HasNoFeed b
parts_feed a b h = and_parts _ _ (sym (list_all-append (λ x. not (x == 10)) a b) ∙ h)

pub both_feed : (a b : List ℕ) → HasNoFeed a → HasNoFeed b → HasNoFeed (a ++ b)
both_feed a b f g = list_all-append (λ x. not (x == 10)) a b ∙ and_from _ _ f g

cut_feed : (n : ℕ) (t : List ℕ) → HasNoFeed t → HasNoFeed (take n t) × HasNoFeed (drop n t)
cut_feed n t h = parts_feed (take n t) (drop n t) (ap (list_all (λ x. not (x == 10))) (take-append-drop n t) ∙ h)

pub drop_feed : (n : ℕ) (t : List ℕ) → HasNoFeed t → HasNoFeed (drop n t)
drop_feed n t h = let p = cut_feed n t h in p.1

strip_feed : (t : List ℕ) → HasNoFeed t → HasNoFeed (strip_carriage_return t)
strip_feed t h =
    ⊎_elim
    (λ yes. let p = cut_feed (length t - 1) t h in subst HasNoFeed (sym (cond-true _ _ _ yes)) p.0)
    (λ never. subst HasNoFeed (sym (cond-false _ _ _ never)) h)
    (cases_Bool (get_or t (length t - 1) 0 == 13))

lone_feed : (t : List ℕ) (v : Bool) → HasNoFeed t → NoFeeds (cond v [] (t ∷ []))
lone_feed t true h = tt
lone_feed t false h = (h, tt)

line_feeds : (parts : List (List ℕ)) → NoFeeds parts → NoFeeds (lines_of_parts parts)
line_feeds [] h = tt
line_feeds (x ∷ []) h = lone_feed x (length x == 0) h.0
line_feeds (x ∷ y ∷ more) h = (strip_feed x h.0, line_feeds (y ∷ more) h.1)

no_feeds : (bytes : List ℕ) → NoFeeds (lines bytes)
no_feeds bytes = line_feeds (slice_split is_feed bytes) (part_feeds bytes)

-- ---- a line in its place

placed_ok : (earlier : Bool) (r : Result Line TodoKind) (l : Line) → placed earlier r ≡ Ok l → (r ≡ Ok l) × (may_stand earlier l ≡ true)
placed_ok earlier (Ok x) l h =
    let p = past (not (may_stand earlier x)) fault.NoEarlier (Ok x) l h in
    let P : Line → Type 0 = λ y. may_stand earlier y ≡ true in
    (p.1, subst P (ok_same x l p.1) (not-false _ p.0))
placed_ok earlier (Err k) l h = let no_way : ⊥ = cc in absurd no_way

in_place : (earlier : Bool) (text : List ℕ) (l : Line) → line_in earlier text ≡ Ok l → (line_of text ≡ Ok l) × (may_stand earlier l ≡ true)
unfolding line_in
in_place earlier text l h = placed_ok earlier (line_of text) l h

put_in_place : (earlier : Bool) (text : List ℕ) (l : Line) → line_of text ≡ Ok l → may_stand earlier l ≡ true → line_in earlier text ≡ Ok l
unfolding line_in
put_in_place earlier text l e may = ap (placed earlier) e ∙ cond-false _ _ _ (ap not may)

-- ---- the whole

pub match_true : (v : Bool) (P Q : Type 0) → v ≡ true → P → MatchBool v P Q
match_true true P Q e p = p
match_true false P Q e p = absurd (false≢true e)

pub match_false : (v : Bool) (P Q : Type 0) → v ≡ false → Q → MatchBool v P Q
match_false true P Q e q = absurd (true≢false e)
match_false false P Q e q = q

record Led (l : Line) (r : Result (List Line) TodoFault) (ls : List Line) : Type 0 where
  later : List Line
  is_ok : r ≡ Ok later
  is_all : ls ≡ l ∷ later

led_ok : (l : Line) (r : Result (List Line) TodoFault) (ls : List Line) → led_by (l ∷ []) r ≡ Ok ls → Led l r ls
led_ok l (Ok later) ls h = record { later = later; is_ok = refl; is_all = cc }
led_ok l (Err e) ls h = let no_way : ⊥ = cc in absurd no_way

led_err : (l : Line) (r : Result (List Line) TodoFault) (e : TodoFault) → led_by (l ∷ []) r ≡ Err e → r ≡ Err e
led_err l (Ok later) e h = let no_way : ⊥ = cc in absurd no_way
led_err l (Err x) e h = h

todo_none : (earlier : Bool) (n : ℕ) → todo_of earlier n [] ≡ Ok []
unfolding todo_of
todo_none earlier n = refl

sound : (texts : List (List ℕ)) (earlier : Bool) (n : ℕ) (ls : List Line) → NoFeeds texts → todo_of earlier n texts ≡ Ok ls
    → SpellAll earlier texts ls
sound [] earlier n ls feeds h = let e : ◌≡◌ {A = Result (List Line) TodoFault} (Ok []) (Ok ls) = sym (todo_none earlier n) ∙ h in cc
sound (text ∷ texts) earlier n ls feeds h =
    ⊎_elim
    (λ yes. match_true _ _ _ yes (sound texts earlier (n + 1) ls feeds.1 (sym (todo_comment earlier n text texts yes) ∙ h)))
    (λ never.
    match_false _ _ _ never
    (elim (line_in earlier text) as (λ r. line_in earlier text ≡ r → (line : Line) × (later : List Line) × (ls ≡ line ∷ later) × Spells line text × (may_stand earlier line ≡ true) × SpellAll (earlier || counts line) texts later) [
      | Ok l ↦ λ e.
          let p = in_place earlier text l e in
          let led = led_ok l (todo_of (earlier || counts l) (n + 1) texts) ls (sym (todo_line earlier n text texts l never e) ∙ h) in
          (l, led.later, led.is_all, line_sound text l feeds.0 p.0, p.1, sound texts (earlier || counts l) (n + 1) led.later feeds.1 led.is_ok)
      | Err k ↦ λ e. let bad : ◌≡◌ {A = Result (List Line) TodoFault} (Err (Bad n k)) (Ok ls) = sym (todo_bad earlier n text texts k never e) ∙ h in let no_way : ⊥ = cc in absurd no_way
    ] refl))
    (cases_Bool (is_comment text))

complete : (texts : List (List ℕ)) (earlier : Bool) (n : ℕ) (ls : List Line) → SpellAll earlier texts ls → todo_of earlier n texts ≡ Ok ls
complete [] earlier n ls h = todo_none earlier n ∙ ap (λ (x : List Line). Ok x) (sym h)
complete (text ∷ texts) earlier n ls h =
    ⊎_elim
    (λ yes. todo_comment earlier n text texts yes ∙ complete texts earlier (n + 1) ls (MatchBool-at_true _ _ yes h))
    (λ never.
    let s = MatchBool-at_false _ _ never h in
    let l = s.0 in
    todo_line earlier n text texts l never (put_in_place earlier text l (line_complete text l s.3) s.4)
    ∙ ap (led_by (l ∷ [])) (complete texts (earlier || counts l) (n + 1) s.1 s.5)
    ∙ ap (λ (x : List Line). Ok x) (sym s.2))
    (cases_Bool (is_comment text))

record Fails (earlier : Bool) (n : ℕ) (texts : List (List ℕ)) (e : TodoFault) : Type 0 where
  number : ℕ
  kind : TodoKind
  is_bad : e ≡ Bad number kind
  first : IsFirstBad earlier n texts number kind

fails : (texts : List (List ℕ)) (earlier : Bool) (n : ℕ) (e : TodoFault) → NoFeeds texts → todo_of earlier n texts ≡ Err e → Fails earlier n texts e
fails [] earlier n e feeds h =
    let bad : ◌≡◌ {A = Result (List Line) TodoFault} (Ok []) (Err e) = sym (todo_none earlier n) ∙ h in let no_way : ⊥ = cc in absurd no_way
fails (text ∷ texts) earlier n e feeds h =
    ⊎_elim
    (λ yes.
    let f = fails texts earlier (n + 1) e feeds.1 (sym (todo_comment earlier n text texts yes) ∙ h) in
    let b = f.first in
    record {
      number = f.number;
      kind = f.kind;
      is_bad = f.is_bad;
      first = record {
        good = text ∷ b.good;
        bad = b.bad;
        after = b.after;
        split = ap (λ (ts : List (List ℕ)). text ∷ ts) b.split;
        before = b.before;
        spelled = match_true _ _ _ yes b.spelled;
        number_is = b.number_is ∙ omega arith;
        no_comment = b.no_comment;
        kind_is = b.kind_is;
      };
    })
    (λ never.
    elim (line_in earlier text) as (λ r. line_in earlier text ≡ r → Fails earlier n (text ∷ texts) e) [
      | Ok l ↦ λ is.
          let p = in_place earlier text l is in
          let f = fails texts (earlier || counts l) (n + 1) e feeds.1 (led_err l (todo_of (earlier || counts l) (n + 1) texts) e (sym (todo_line earlier n text texts l never is) ∙ h)) in
          let b = f.first in
          record {
            number = f.number;
            kind = f.kind;
            is_bad = f.is_bad;
            first = record {
              good = text ∷ b.good;
              bad = b.bad;
              after = b.after;
              split = ap (λ (ts : List (List ℕ)). text ∷ ts) b.split;
              before = l ∷ b.before;
              spelled = match_false _ _ _ never (l, b.before, refl, line_sound text l feeds.0 p.0, p.1, b.spelled);
              number_is = b.number_is ∙ omega arith;
              no_comment = b.no_comment;
              kind_is = b.kind_is;
            };
          }
      | Err k ↦ λ is.
          let bad : ◌≡◌ {A = Result (List Line) TodoFault} (Err (Bad n k)) (Err e) = sym (todo_bad earlier n text texts k never is) ∙ h in
          record {
            number = n;
            kind = k;
            is_bad = cc;
            first = record {
              good = [];
              bad = text;
              after = texts;
              split = refl;
              before = [];
              spelled = refl;
              number_is = omega arith;
              no_comment = never;
              kind_is = first_kind_is earlier text ∙ ap result_err is;
            };
          }
    ] refl)
    (cases_Bool (is_comment text))

-- what the reader gives is what is spelled
pub todo_read : (earlier : Bool) (bytes : List ℕ) (r : Result (List Line) TodoFault) → TodoGives r (todo_of earlier 1 (lines bytes))
    → IsTodoReading earlier bytes r
todo_read earlier bytes (Ok ls) h = (
  sound (lines bytes) earlier 1 ls (no_feeds bytes) h,
  λ others s. let e : ◌≡◌ {A = Result (List Line) TodoFault} (Ok others) (Ok ls) = sym (complete (lines bytes) earlier 1 others s) ∙ h in cc,
)
todo_read earlier bytes (Err (Bad number kind)) h =
    let f = fails (lines bytes) earlier 1 (Bad number kind) (no_feeds bytes) h in
    let same_number : f.number ≡ number = let e = f.is_bad in cc in
    let same_kind : f.kind ≡ kind = let e = f.is_bad in cc in
    let P : ℕ → Type 0 = λ m. IsFirstBad earlier 1 (lines bytes) m kind in
    let Q : TodoKind → Type 0 = λ k. IsFirstBad earlier 1 (lines bytes) f.number k in (
      subst P same_number (subst Q same_kind f.first),
      λ others s. let e : ◌≡◌ {A = Result (List Line) TodoFault} (Ok others) (Err (Bad number kind)) = sym (complete (lines bytes) earlier 1 others s) ∙ h in let no_way : ⊥ = cc in no_way,
    )
todo_read earlier bytes (Err Memory) h = tt

-- each line that is read is spelled by some text
pub all_spelled : (texts : List (List ℕ)) (earlier : Bool) (ls : List Line) → SpellAll earlier texts ls → All IsSpelled ls
all_spelled [] earlier ls h = let P : List Line → Type 0 = λ ls. All IsSpelled ls in subst P (sym h) (All-nil IsSpelled)
all_spelled (text ∷ texts) earlier ls h =
    ⊎_elim
    (λ yes. all_spelled texts earlier ls (MatchBool-at_true _ _ yes h))
    (λ never.
    let s = MatchBool-at_false _ _ never h in
    let P : List Line → Type 0 = λ ls. All IsSpelled ls in
    subst P (sym s.2) (All-cons IsSpelled s.0 s.1 (record { text = text; spells = s.3 }) (all_spelled texts (earlier || counts s.0) s.1 s.5)))
    (cases_Bool (is_comment text))

pub read_spelled : {V : Type 0} (items : V → List Line) (bytes : List ℕ) (earlier : Bool) (r : Result V TodoFault)
    → TodoGives (result_map_both items (λ e. e) r) (todo_of earlier 1 (lines bytes)) → IfOk r (λ v. All IsSpelled (items v))
read_spelled items bytes earlier (Ok v) h = all_spelled (lines bytes) earlier (items v) (sound (lines bytes) earlier 1 (items v) (no_feeds bytes) h)
read_spelled items bytes earlier (Err e) h = tt
