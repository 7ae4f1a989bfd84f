-- The file `control` is recalled.
use Rattle.std.proofs.Common.{◌≡◌, ◌∙◌, ℕ, Bool, true, false, cond, eqb, not, List, [], ◌∷◌, ◌++◌, Option, Some, None, Result, Ok, Err, refl, sym, ap, subst, append_assoc}
use Rattle.std.specs.Prelude.{◌&&◌, ◌==◌, codes, unwrap_or}
use Rattle.std.specs.List.{list_all}
use Rattle.std.proofs.lemmas.Bool.{and_parts, not-true}
use Rattle.grammar.specs.Readers.{literal_at}
use Rattle.hex.specs.Hex.{encode_lower}
use Rattle.ident_text.specs.Ids.{id_from}
use Rattle.object_text.specs.Commits.{IsEncoding, encoding_text, is_header_value, line}
use Rattle.seq_base.specs.Ids.{IsId}
use Rattle.state_text.specs.declared.control.Form.{Form}
use Rattle.state_text.specs.declared.control.Form.TheVariants.{New, Amend, Merge}
use Rattle.state_text.specs.declared.options.Empty.{Empty}
use Rattle.state_text.specs.declared.options.Empty.TheVariants as empty
use Rattle.state_text.specs.declared.stop_word.StopWord.{StopWord}
use Rattle.state_text.specs.declared.stop_word.StopWord.TheVariants as stop
use Rattle.state_text.specs.declared.verb.Verb.{Verb}
use Rattle.state_text.specs.declared.verb.Verb.TheVariants as verb
use Rattle.state_text.specs.Controls.{IsForm}
use Rattle.state_text.specs.Texts.{edit_word, zeros}
use Rattle.state_text.specs.Words.{empty_word, stop_word, verb_word, yes_or_no}
use Rattle.todo_text.specs.Spells.{HasNoFeed}
use Rattle.state_reading.specs.declared.settings.Settings.{Settings}
use Rattle.state_reading.specs.Lines.{behind, id_at}
use Rattle.state_reading.specs.Recalls.{Recalls}
use Rattle.state_reading.specs.Settings.{IsSettings, IsTold, amend_at, behind_line, empty_at, encoding_at, encoding_for, ff_at, first_line, head_at, id_behind, is_edited, is_followed, merge_at, new_at, pending_at, pending_told, read_merge, reschedule_at, settings_at, settings_text, stop_at, value_behind, value_if, verb_at}
use Rattle.state_reading.specs.Values.{without_feed}
use Rattle.state_reading.proofs.KeyLaws.{id_again, id_before, id_fits, id_taken, key_again}
use Rattle.state_reading.proofs.LineLaws.{both_plain, id_plain}
use Rattle.state_reading.proofs.ValueLaws.{feed_off, or_zeros}

-- ---- lines one after the other

pub first_through : (x r : List ℕ) → HasNoFeed x → first_line (x ++ 10 ∷ r) ≡ x
first_through [] r plain = refl
first_through (b ∷ x) r plain =
    let k = and_parts (not (b == 10)) (list_all (λ c. not (c == 10)) x) plain in
    let other : eqb b 10 ≡ false = not-true (eqb b 10) k.0 in
    rw other (ap (λ (t : List ℕ). b ∷ t) (first_through x r k.1))

pub behind_through : (x r : List ℕ) → HasNoFeed x → behind_line (x ++ 10 ∷ r) ≡ r
behind_through [] r plain = refl
behind_through (b ∷ x) r plain =
    let k = and_parts (not (b == 10)) (list_all (λ c. not (c == 10)) x) plain in
    let other : eqb b 10 ≡ false = not-true (eqb b 10) k.0 in
    rw other (behind_through x r k.1)

abbrev made_of : Verb → Empty → Bool → Bool → StopWord → List ℕ → Option (Form × Bool) → Option (List ℕ) → Settings
made_of v e f r st h p en = record { verb = v; empty = e; ff = f; reschedule = r; stop = st; head = h; pending = p; encoding = en }

made : (s : Settings) (v : Verb) (e : Empty) (f r : Bool) (st : StopWord) (h : List ℕ) (p : Option (Form × Bool)) (en : Option (List ℕ))
    → v ≡ s.verb → e ≡ s.empty → f ≡ s.ff → r ≡ s.reschedule → st ≡ s.stop → h ≡ s.head → p ≡ s.pending → en ≡ s.encoding
    → made_of v e f r st h p en ≡ s
made s v e f r st h p en a b c d i j k l = rw (a, b, c, d, i, j, k, l) refl

encoding_both : {p : Option (Form × Bool)} {en other : Option (List ℕ)} (q : Option (Form × Bool)) → p ≡ q → en ≡ other
    → encoding_for p en ≡ encoding_for q other
encoding_both {p} {en} {other} q a b = ap (λ (o : Option (Form × Bool)). encoding_for o en) a ∙ ap (encoding_for q) b

-- eight lines, and what stands behind them
settings_read : (s : Settings) (a v e f r st h p rest : List ℕ) → HasNoFeed a → HasNoFeed v → HasNoFeed e → HasNoFeed f → HasNoFeed r → HasNoFeed st
    → HasNoFeed h → HasNoFeed p
    → verb_at v ≡ s.verb → empty_at e ≡ s.empty → ff_at f ≡ s.ff → reschedule_at r ≡ s.reschedule → stop_at st ≡ s.stop → head_at h ≡ s.head → pending_at p ≡ s.pending
    → encoding_for s.pending (encoding_at rest) ≡ s.encoding
    → settings_at (a ++ 10 ∷ (v ++ 10 ∷ (e ++ 10 ∷ (f ++ 10 ∷ (r ++ 10 ∷ (st ++ 10 ∷ (h ++ 10 ∷ (p ++ 10 ∷ rest)))))))) ≡ s
settings_read s a v e f r st h p rest pa pv pe pf pr ps ph pp verb-is empty-is ff-is reschedule-is stop-is head-is pending-is encoding-is =
    let t8 = p ++ 10 ∷ rest in
    let t7 = h ++ 10 ∷ t8 in
    let t6 = st ++ 10 ∷ t7 in
    let t5 = r ++ 10 ∷ t6 in
    let t4 = f ++ 10 ∷ t5 in
    let t3 = e ++ 10 ∷ t4 in
    let t2 = v ++ 10 ∷ t3 in
    let b2 : behind_line (a ++ 10 ∷ t2) ≡ t2 = behind_through a t2 pa in
    let b3 : behind_line (behind_line (a ++ 10 ∷ t2)) ≡ t3 = ap behind_line b2 ∙ behind_through v t3 pv in
    let b4 : behind_line (behind_line (behind_line (a ++ 10 ∷ t2))) ≡ t4 = ap behind_line b3 ∙ behind_through e t4 pe in
    let b5 : behind_line (behind_line (behind_line (behind_line (a ++ 10 ∷ t2)))) ≡ t5 = ap behind_line b4 ∙ behind_through f t5 pf in
    let b6 : behind_line (behind_line (behind_line (behind_line (behind_line (a ++ 10 ∷ t2))))) ≡ t6 = ap behind_line b5 ∙ behind_through r t6 pr in
    let b7 : behind_line (behind_line (behind_line (behind_line (behind_line (behind_line (a ++ 10 ∷ t2)))))) ≡ t7 = ap behind_line b6 ∙ behind_through st t7 ps in
    let b8 : behind_line (behind_line (behind_line (behind_line (behind_line (behind_line (behind_line (a ++ 10 ∷ t2))))))) ≡ t8 = ap behind_line b7 ∙ behind_through h t8 ph in
    let read = ap (λ (t : List ℕ). pending_at (first_line t)) b8 ∙ ap pending_at (first_through p rest pp) ∙ pending-is in
    let later = ap (λ (t : List ℕ). encoding_at (behind_line t)) b8 ∙ ap encoding_at (behind_through p rest pp) in
    made s _ _ _ _ _ _ _ _
    (ap (λ (t : List ℕ). verb_at (first_line t)) b2 ∙ ap verb_at (first_through v t3 pv) ∙ verb-is)
    (ap (λ (t : List ℕ). empty_at (first_line t)) b3 ∙ ap empty_at (first_through e t4 pe) ∙ empty-is)
    (ap (λ (t : List ℕ). ff_at (first_line t)) b4 ∙ ap ff_at (first_through f t5 pf) ∙ ff-is)
    (ap (λ (t : List ℕ). reschedule_at (first_line t)) b5 ∙ ap reschedule_at (first_through r t6 pr) ∙ reschedule-is)
    (ap (λ (t : List ℕ). stop_at (first_line t)) b6 ∙ ap stop_at (first_through st t7 ps) ∙ stop-is)
    (ap (λ (t : List ℕ). head_at (first_line t)) b7 ∙ ap head_at (first_through h t8 ph) ∙ head-is)
    read
    (encoding_both s.pending read later ∙ encoding-is)

-- ---- words

verb_again : (x : Verb) → (verb_at (codes "verb " ++ verb_word x) ≡ x) × HasNoFeed (codes "verb " ++ verb_word x)
verb_again verb.Rebase = (refl, refl)
verb_again verb.CherryPick = (refl, refl)
verb_again verb.Revert = (refl, refl)

empty_again : (x : Empty) → (empty_at (codes "empty " ++ empty_word x) ≡ x) × HasNoFeed (codes "empty " ++ empty_word x)
empty_again empty.Drop = (refl, refl)
empty_again empty.Keep = (refl, refl)
empty_again empty.Stop = (refl, refl)

ff_again : (x : Bool) → (ff_at (codes "ff " ++ yes_or_no x) ≡ x) × HasNoFeed (codes "ff " ++ yes_or_no x)
ff_again true = (refl, refl)
ff_again false = (refl, refl)

reschedule_again : (x : Bool) → (reschedule_at (codes "reschedule " ++ yes_or_no x) ≡ x) × HasNoFeed (codes "reschedule " ++ yes_or_no x)
reschedule_again true = (refl, refl)
reschedule_again false = (refl, refl)

stop_again : (x : StopWord) → (stop_at (codes "stop " ++ stop_word x) ≡ x) × HasNoFeed (codes "stop " ++ stop_word x)
stop_again stop.Conflict = (refl, refl)
stop_again stop.Edit = (refl, refl)
stop_again stop.Break = (refl, refl)
stop_again stop.ExecFailed = (refl, refl)
stop_again stop.ExecDirty = (refl, refl)
stop_again stop.Empty = (refl, refl)
stop_again stop.HookRefused = (refl, refl)
stop_again stop.EditorFailed = (refl, refl)
stop_again stop.EmptyMessage = (refl, refl)
stop_again stop.DriverBroken = (refl, refl)
stop_again stop.Blocked = (refl, refl)
stop_again stop.TodoBad = (refl, refl)
stop_again stop.RefMoved = (refl, refl)

head_again : (id : List ℕ) → IsId id → head_at (codes "head " ++ encode_lower id) ≡ id
head_again id is = ap id_behind (key_again (codes "head ") (encode_lower id)) ∙ ap (λ (o : Option (List ℕ)). unwrap_or o zeros) (id_again id is)

-- ---- the commit that is still to be made

edited : (edit : Bool) → is_edited (edit_word edit) ≡ edit
edited true = refl
edited false = refl

word_plain : (edit : Bool) → HasNoFeed (edit_word edit)
word_plain true = refl
word_plain false = refl

pending_again : (p : Option (Form × Bool)) (en : Option (List ℕ)) → IsTold p en → pending_at (codes "pending " ++ pending_told p) ≡ p
unfolding literal_at
pending_again None en is = refl
pending_again (Some (New, edit)) en is = ap (λ (e : Bool). Some (New, e)) (edited edit)
pending_again (Some (Amend, edit)) en is = ap (λ (e : Bool). Some (Amend, e)) (edited edit)
pending_again (Some (Merge id, edit)) en is =
    ap read_merge (id_before id (edit_word edit) is.0) ∙ ap (λ (e : Bool). Some (Merge id, e)) (edited edit)

pending_plain : (p : Option (Form × Bool)) (en : Option (List ℕ)) → IsTold p en → HasNoFeed (codes "pending " ++ pending_told p)
pending_plain None en is = refl
pending_plain (Some (New, edit)) en is = word_plain edit
pending_plain (Some (Amend, edit)) en is = word_plain edit
pending_plain (Some (Merge id, edit)) en is = both_plain (encode_lower id) (edit_word edit) (id_plain id is.0) (word_plain edit)

merge_form : (o : Option (List ℕ)) (told : Form × Bool) → merge_at o ≡ Some told → IsForm told.0
merge_form None told e = absurd cc
merge_form (Some rest) told e = at (id_from rest) refl e
  where
    at : (r : Result (List ℕ × List ℕ) ℕ) → id_from rest ≡ r → read_merge r ≡ Some told → IsForm told.0
    at (Ok x) is e =
        let same : (Merge x.0, is_edited x.1) ≡ told = cc in
        let P : Form × Bool → Type 0 = λ t. IsForm t.0 in
        subst P same (id_taken rest x.0 x.1 is)
    at (Err left) is e = absurd cc

amend_form : (o : Option (List ℕ)) (l : List ℕ) (told : Form × Bool) → amend_at o l ≡ Some told → IsForm told.0
amend_form None l told e = merge_form (behind (codes "pending merge ") l) told e
amend_form (Some rest) l told e =
    let same : (Amend, is_edited rest) ≡ told = cc in
    let P : Form × Bool → Type 0 = λ t. IsForm t.0 in
    subst P same tt

new_form : (o : Option (List ℕ)) (l : List ℕ) (told : Form × Bool) → new_at o l ≡ Some told → IsForm told.0
new_form None l told e = amend_form (behind (codes "pending amend") l) l told e
new_form (Some rest) l told e =
    let same : (New, is_edited rest) ≡ told = cc in
    let P : Form × Bool → Type 0 = λ t. IsForm t.0 in
    subst P same tt

-- ---- the encoding

followed : (b : ℕ) (after : List ℕ) → is_header_value (b ∷ after) ≡ (is_followed b after && is_header_value after)
followed b [] = at (not (b == 10))
  where
    at : (v : Bool) → v ≡ (v && true)
    at true = refl
    at false = refl
followed b (c ∷ after) = refl

pub value_goes_on : (b : ℕ) (after : List ℕ) → is_followed b after ≡ true → is_header_value (b ∷ after) ≡ is_header_value after
value_goes_on b after on = followed b after ∙ ap (λ (v : Bool). v && is_header_value after) on

pub value_ends : (b : ℕ) (after : List ℕ) → is_followed b after ≡ false → is_header_value (b ∷ after) ≡ false
value_ends b after off = followed b after ∙ ap (λ (v : Bool). v && is_header_value after) off

value_fits : (v : List ℕ) → IsEncoding (value_if v)
value_fits v = at (is_header_value v) refl
  where
    at : (b : Bool) → is_header_value v ≡ b → IsEncoding (cond b (Some v) None)
    at true is = is
    at false is = tt

encoding_fits : (o : Option (List ℕ)) → IsEncoding (value_behind o)
encoding_fits None = tt
encoding_fits (Some rest) = value_fits (without_feed rest)

encoding_again : (en : Option (List ℕ)) → IsEncoding en → encoding_at (encoding_text en) ≡ en
unfolding literal_at
encoding_again None is = refl
encoding_again (Some v) is =
    let good : is_header_value v ≡ true = is in
    ap value_behind (key_again (codes "encoding ") (v ++ 10 ∷ [])) ∙ ap value_if (feed_off v) ∙ ap (λ (b : Bool). cond b (Some v) None) good

encoding_told : (p : Option (Form × Bool)) (en : Option (List ℕ)) → IsTold p en → encoding_for p (encoding_at (encoding_text en)) ≡ en
encoding_told None en is = sym is
encoding_told (Some told) en is = encoding_again en is.1

-- ---- the file

flat : (a b c d e g h t : List ℕ) → (line a ++ line b ++ line c ++ line d ++ line e) ++ (line g ++ codes "head " ++ line h) ++ t
    ≡ a ++ 10 ∷ (b ++ 10 ∷ (c ++ 10 ∷ (d ++ 10 ∷ (e ++ 10 ∷ (g ++ 10 ∷ ((codes "head " ++ h) ++ 10 ∷ t))))))
flat a b c d e g h t = simp append_assoc

settings_back : (s : Settings) → IsSettings s → settings_at (settings_text s) ≡ s
settings_back s is =
    let v = verb_again s.verb in
    let e = empty_again s.empty in
    let f = ff_again s.ff in
    let r = reschedule_again s.reschedule in
    let st = stop_again s.stop in
    let head = codes "head " ++ encode_lower s.head in
    let pending = codes "pending " ++ pending_told s.pending in
    let rest = pending ++ 10 ∷ encoding_text s.encoding in
    ap settings_at (flat (codes "gitseq 1") (codes "verb " ++ verb_word s.verb) (codes "empty " ++ empty_word s.empty) (codes "ff " ++ yes_or_no s.ff) (codes "reschedule " ++ yes_or_no s.reschedule) (codes "stop " ++ stop_word s.stop) (encode_lower s.head) rest)
    ∙ settings_read s (codes "gitseq 1") (codes "verb " ++ verb_word s.verb) (codes "empty " ++ empty_word s.empty) (codes "ff " ++ yes_or_no s.ff) (codes "reschedule " ++ yes_or_no s.reschedule) (codes "stop " ++ stop_word s.stop) head pending (encoding_text s.encoding)
    refl v.1 e.1 f.1 r.1 st.1 (id_plain s.head is.head) (pending_plain s.pending s.encoding is.told)
    v.0 e.0 f.0 r.0 st.0 (head_again s.head is.head) (pending_again s.pending s.encoding is.told) (encoding_told s.pending s.encoding is.told)

head_fits : (o : Option (List ℕ)) → IsId (id_behind o)
head_fits None = or_zeros (id_at []) (id_fits [])
head_fits (Some l) = or_zeros (id_at l) (id_fits l)

told_fits : (l rest : List ℕ) → IsTold (pending_at l) (encoding_for (pending_at l) (encoding_at rest))
told_fits l rest = at (pending_at l) refl
  where
    at : (p : Option (Form × Bool)) → pending_at l ≡ p → IsTold p (encoding_for p (encoding_at rest))
    at None is = refl
    at (Some told) is = (new_form (behind (codes "pending new") l) l told is, encoding_fits (behind (codes "encoding ") rest))

settings_fit : (bytes : List ℕ) → IsSettings (settings_at bytes)
settings_fit bytes =
    let head_line = behind_line (behind_line (behind_line (behind_line (behind_line (behind_line bytes))))) in
    let pending_line = behind_line head_line in
    record { head = head_fits (behind (codes "head ") (first_line head_line)); told = told_fits (first_line pending_line) (behind_line pending_line) }

pub settings_recalled : (bytes : List ℕ) (s : Settings) → s ≡ settings_at bytes → Recalls IsSettings settings_text bytes s
settings_recalled bytes s e = record {
  fits = subst IsSettings (sym e) (settings_fit bytes);
  again = λ y is text. e ∙ ap settings_at text ∙ settings_back y is;
}
