-- Chains of files that lead on.
use Rattle.std.proofs.Common.{◌≡◌, ◌≢◌, ℕ, ◌-◌, zero, suc, Option, Some, None, Result, Ok, Err, refl, ap, ◌∙◌, arith}
use Rattle.std.specs.FinMap as map
use Rattle.seq_base.specs.Words.{Id, Name, Text}
use Rattle.seq_base.specs.World.{World}
use Rattle.seq_outside.specs.Halts.{◌>>=◌}
use Rattle.ref_text.specs.declared.head.Head.{Head}
use Rattle.ref_text.specs.declared.head.Head.TheVariants.{Branch, Detached}
use Rattle.ref_text.specs.Refs.{head_name, ref_path}
use Rattle.ref_store.specs.declared.fault.RefFault.{RefFault}
use Rattle.ref_store.specs.declared.fault.RefFault.TheVariants.{BadRef}
use Rattle.ref_store.specs.Values.{end_within, file_head, followed, goes_on, head_at, head_end, packed_value_at, settled}

pub no_more : (left : ℕ) (w : World) (from name : Name) → left ≡ 0 → end_within left w from name ≡ Err (BadRef from)
no_more zero w from name e = unfold end_within in refl
no_more (suc n) w from name e = absurd (omega (arith, e))

pub one_more : (left : ℕ) (w : World) (from name : Name) → left ≢ 0
    → end_within left w from name ≡ followed (end_within (left - 1) w name) name (map.get w (ref_path name))
one_more zero w from name ne = absurd (ne refl)
one_more (suc n) w from name ne = unfold end_within in ap (λ (k : ℕ). followed (end_within k w name) name (map.get w (ref_path name))) (omega arith)

pub ruleset chain_steps = (no_more, one_more)

-- ---- the same in one walk: each file gives the value, or leads to a name whose value it is

-- the value that a file gives, or that of the name to which it leads
abbrev pub led : (Name → Result (Option Id) RefFault) → Head → Result (Option Id) RefFault
led on (Detached id) = Ok (Some id)
led on (Branch other) = on other

-- a loose file decides, else the packed refs
abbrev pub decided : World → (Name → Result (Option Id) RefFault) → Name → Option Text → Result (Option Id) RefFault
decided w on name (Some text) = file_head name text >>= led on
decided w on name None = packed_value_at w name

-- the value of a name to which one file leads, where so many files may be read
abbrev pub value_within : ℕ → World → Name → Name → Result (Option Id) RefFault
value_within n w from name = end_within n w from name >>= settled w

pub ended : (w : World) (from name : Name) → value_within zero w from name ≡ Err (BadRef from)
ended w from name = unfold end_within in refl

settled_on : (w : World) (on : Name → Result Head RefFault) (r : Result Head RefFault)
    → ((r >>= goes_on on) >>= settled w) ≡ (r >>= led (λ other. on other >>= settled w))
settled_on w on (Ok (Detached id)) = unfold settled in refl
settled_on w on (Ok (Branch other)) = refl
settled_on w on (Err why) = refl

followed_is : (w : World) (on : Name → Result Head RefFault) (name : Name) (o : Option Text)
    → (followed on name o >>= settled w) ≡ decided w (λ other. on other >>= settled w) name o
followed_is w on name (Some text) = settled_on w on (file_head name text)
followed_is w on name None = unfold settled in refl

pub opened : (n : ℕ) (w : World) (from name : Name)
    → value_within (suc n) w from name ≡ decided w (value_within n w name) name (map.get w (ref_path name))
opened n w from name =
    ap (λ (r : Result Head RefFault). r >>= settled w) (one_more (suc n) w from name (λ e. absurd cc) ∙ ap (λ (k : ℕ). followed (end_within k w name) name (map.get w (ref_path name))) (omega arith))
    ∙ followed_is w (end_within n w name) name (map.get w (ref_path name))

abbrev pub head_value : World → Result (Option Id) RefFault
head_value w = head_end w >>= settled w

pub head_value_is : (w : World) → head_value w ≡ (head_at w >>= led (value_within 5 w head_name))
head_value_is w = unfold head_end in settled_on w (end_within 5 w head_name) (head_at w)
