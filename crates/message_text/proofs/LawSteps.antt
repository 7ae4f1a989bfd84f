-- The laws by which the functions of laws.rt are proved.
use Rattle.message_text.proofs.CleanLaws.{cleaned-twice}
use Rattle.message_text.proofs.FixupLaws.{kept_text-fixups}
use Rattle.message_text.proofs.ShapeLaws.{cleaned-clean}
use Rattle.message_text.proofs.StandLaws.{kept_messages-stand}

pub ruleset law_steps = (cleaned-twice, cleaned-clean, kept_text-fixups, kept_messages-stand)
