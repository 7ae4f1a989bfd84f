-- Who commits, by the environment and the configuration, is one whom an ident can hold.
use Rattle.std.proofs.Common.{◌≡◌, ℤ, ◌==◌, Bool, true, false, not, cond, List, [], length, codes, Some, None, Result, Ok, Err, refl, sym, ap, subst}
use Rattle.std.specs.Prelude.{Option, option_and_then, unwrap_or}
use Rattle.std.specs.List.{list_all}
use Rattle.std.proofs.lemmas.Bool.{and_parts}
use Rattle.config_text.specs.declared.config.Setting.{Setting as ConfigSetting}
use Rattle.ident_text.specs.Idents.{is_ident_byte}
use Rattle.seq_base.specs.Words.{Name, Text}
use Rattle.seq_model.specs.Committers.{committer_in, identity, identity_in, is_identity, said_by}
use Rattle.seq_model.specs.Refusing.{or_refuse}
use Rattle.seq_model.specs.declared.committer.Committer.{Committer}
use Rattle.seq_model.specs.declared.denial.Denial.{Denial}
use Rattle.seq_model.specs.declared.refusal.Refusal.TheVariants.{NoIdentity}
use Rattle.seq_outside.specs.Env.{IsZone}
use Rattle.seq_outside.specs.Halts.{◌>>=◌}
use Rattle.seq_outside.specs.declared.env.Env.{Env}
use Rattle.seq_step.specs.Settings.{MayCommit}

abbrev fits : Text → Type 0
fits text = list_all is_ident_byte text ≡ true

said_at : (said : Option Text) (text : Text) → or_refuse (option_and_then identity said) NoIdentity ≡ Ok text → (said ≡ Some text) × fits text
said_at None text is = absurd cc
said_at (Some word) text is = at (is_identity word) refl is
  where
    at : (t : Bool) → is_identity word ≡ t → or_refuse (cond t (Some word) None) NoIdentity ≡ Ok text → (Some word ≡ Some text) × fits text
    at true good is =
        let same : word ≡ text = cc in
        (ap Some same, subst fits same (and_parts (not (length word == 0)) (list_all is_ident_byte word) good).1)
    at false bad is = absurd cc

said_so : (vars : List (Name × Text)) (settings : List ConfigSetting) (name key : Name) (text : Text) → identity_in vars settings name key ≡ Ok text
    → (said_by vars settings name key ≡ Some text) × fits text
unfolding identity_in
said_so vars settings name key text is = said_at (said_by vars settings name key) text is

abbrev both : Result Text Denial → Result Text Denial → Result Committer Denial
both one two = do
  name ← one
  email ← two
  Ok (record { name = name; email = email })

both_are : (one two : Result Text Denial) (committer : Committer) → both one two ≡ Ok committer
    → (one ≡ Ok committer.name) × (two ≡ Ok committer.email)
both_are (Ok name) (Ok email) committer is =
    let same : record { name = name; email = email } ≡ committer = cc in
    (ap (λ (c : Committer). Ok c.name) same, ap (λ (c : Committer). Ok c.email) same)
both_are (Ok name) (Err why) committer is = absurd cc
both_are (Err why) two committer is = absurd cc

said_both : (vars : List (Name × Text)) (settings : List ConfigSetting) (committer : Committer) → committer_in vars settings ≡ Ok committer
    → (identity_in vars settings (codes "GIT_COMMITTER_NAME") (codes "name") ≡ Ok committer.name)
    × (identity_in vars settings (codes "GIT_COMMITTER_EMAIL") (codes "email") ≡ Ok committer.email)
unfolding committer_in
said_both vars settings committer is =
    let name = identity_in vars settings (codes "GIT_COMMITTER_NAME") (codes "name") in
    let email = identity_in vars settings (codes "GIT_COMMITTER_EMAIL") (codes "email") in
    both_are name email committer is

abbrev unwrapped : Option Text → Type 0
unwrapped said = fits (unwrap_or said [])

pub may_commit : (env : Env) (secs : ℤ) (config : List ConfigSetting) (committer : Committer) → IsZone env.zone
    → committer_in env.vars config ≡ Ok committer → MayCommit (record { env = env; secs = secs; config = config; committer = committer })
may_commit env secs config committer zone is =
    let said = said_both env.vars config committer is in
    let name = said_so env.vars config (codes "GIT_COMMITTER_NAME") (codes "name") committer.name said.0 in
    let email = said_so env.vars config (codes "GIT_COMMITTER_EMAIL") (codes "email") committer.email said.1 in
    record {
      name = name.1;
      email = email.1;
      zone = zone;
      who = record { name = subst unwrapped (sym name.0) name.1; email = subst unwrapped (sym email.0) email.1; zone = zone };
    }
