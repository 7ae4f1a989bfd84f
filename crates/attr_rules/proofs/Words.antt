-- What the words of a text say, one after the other.
use Rattle.std.proofs.Common.{cond, ◌≡◌, ℕ, suc, ◌-◌, ◌<◌, List, [], ◌∷◌, ◌++◌, length, get_or, take, Option, Some, None, refl, sym, ap, ◌∙◌, append_assoc, arith}
use Rattle.std.specs.Prelude.{◌&&◌}
use Rattle.std.specs.Option.{option_or}
use Rattle.std.specs.List.{slice_split, filter_map, cons_option, before_first, after_first}
use Rattle.std.specs.Str.{bytes_eq}
use Rattle.std.proofs.Math.Path.{fun_ext}
use Rattle.std.proofs.Math.Seq.{take-suc, take-length}
use Rattle.attr_rules.specs.declared.attribute.MergeAttr.{MergeAttr}
use Rattle.attr_rules.specs.declared.macros.Macro.{Macro}
use Rattle.attr_rules.specs.declared.macros.Known.{Known}
use Rattle.attr_rules.specs.Attributes.{own, is_set, last_in, last_said, said}
use Rattle.attr_rules.specs.Known.{told, known_of}
use Rattle.attr_rules.proofs.Parts.{found_first}
use Rattle.seq_base.specs.Blanks.{is_blank}

pub or_none : {Y : Type 0} (o : Option Y) → option_or o None ≡ o
or_none None = refl
or_none (Some y) = refl

pub or_or : {Y : Type 0} (a b c : Option Y) → option_or (option_or a b) c ≡ option_or a (option_or b c)
or_or None b c = refl
or_or (Some y) b c = refl

last_first : {Y : Type 0} (o : Option Y) (ys : List Y) → last_in (cons_option o ys) ≡ option_or (last_in ys) o
last_first None ys = sym (or_none (last_in ys))
last_first (Some y) ys = refl

nothing_told : (ks : List Known) → told ks [] ≡ None
nothing_told [] = refl
nothing_told (k ∷ ks) = nothing_told ks

last_of_none : (ks : List Known) → last_said (told ks) [] ≡ None
last_of_none ks = ap (λ (o : Option MergeAttr). last_in (cons_option o [])) (nothing_told ks)

pub last_at_end : (ks : List Known) (text : List ℕ) (last : Option MergeAttr) → length text ≡ 0 → last ≡ option_or (last_said (told ks) text) last
last_at_end ks [] last e = sym (ap (λ (o : Option MergeAttr). option_or o last) (last_of_none ks))
last_at_end ks (b ∷ text) last e = absurd (omega arith)

pub last_more : (ks : List Known) (text word behind : List ℕ) (last : Option MergeAttr) → word ≡ before_first is_blank text
    → behind ≡ after_first is_blank text
    → option_or (last_said (told ks) behind) (option_or (told ks word) last) ≡ option_or (last_said (told ks) text) last
last_more ks text word behind last e f =
    let split : last_said (told ks) text ≡ option_or (last_said (told ks) behind) (told ks word) =
    ap last_in (found_first (told ks) is_blank text (nothing_told ks))
    ∙ last_first (told ks (before_first is_blank text)) (filter_map (told ks) (slice_split is_blank (after_first is_blank text)))
    ∙ ap (λ (t : List ℕ). option_or (last_said (told ks) (after_first is_blank text)) (told ks t)) (sym e)
    ∙ ap (λ (t : List ℕ). option_or (last_said (told ks) t) (told ks word)) (sym f) in
    sym (or_or (last_said (told ks) behind) (told ks word) last) ∙ ap (λ (o : Option MergeAttr). option_or o last) (sym split)

told_is_said : (ms : List Macro) (word : List ℕ) → told (known_of ms) word ≡ said ms word
unfolding said
told_is_said [] word = refl
told_is_said (m ∷ ms) word =
    ap (λ (o : Option MergeAttr). cond (is_set word && bytes_eq m.name word) (option_or (last_said (said ms) m.attributes) (own word)) o) (told_is_said ms word)

-- what is told of known macros is what the macros say
pub tells : (ms : List Macro) → told (known_of ms) ≡ said ms
tells ms = fun_ext (told_is_said ms)

-- one more macro, later than those that are known
pub known_more : (ms : List Macro) (known : List Known) (m : Macro) (says : Option MergeAttr) → known ≡ known_of ms
    → says ≡ last_said (told known) m.attributes
    → record { name = m.name; says = says } ∷ known ≡ known_of (m ∷ ms)
unfolding said
known_more ms known m says e f =
    let g : says ≡ last_said (said ms) m.attributes =
    f ∙ ap (λ (ks : List Known). last_said (told ks) m.attributes) e ∙ ap (λ (h : List ℕ → Option MergeAttr). last_said h m.attributes) (tells ms) in
    let head : ◌≡◌ {A = Known} (record { name = m.name; says = says }) (record { name = m.name; says = last_said (said ms) m.attributes }) =
    ap (λ (o : Option MergeAttr). let k : Known = record { name = m.name; says = o } in k) g in
    ap (λ (k : Known). k ∷ known) head ∙ ap (λ (ks : List Known). record { name = m.name; says = last_said (said ms) m.attributes } ∷ ks) e

-- the last, and those before it
pub last_of_all : (ms done all : List Macro) (m : Macro) → 0 < length ms → m ≡ get_or ms (length ms - 1) m → ms ++ done ≡ all
    → take (length ms - 1) ms ++ (m ∷ done) ≡ all
last_of_all ms done all m some e f =
    let n = length ms - 1 in
    let many : suc (length ms - 1) ≡ length ms = omega arith in
    let whole : take (suc n) ms ≡ ms = ap (λ (k : ℕ). take k ms) many ∙ take-length ms in
    let parts : ms ≡ take n ms ++ (m ∷ []) = sym whole ∙ take-suc ms n m (omega arith) ∙ ap (λ (x : Macro). take n ms ++ (x ∷ [])) (sym e) in
    sym (append_assoc (take n ms) (m ∷ []) done) ∙ ap (λ (t : List Macro). t ++ done) (sym parts) ∙ f
