-- Which merge driver a path has (gitattributes(5), "Performing a three-way merge"; git-config(1), "merge.default" and "merge.<driver>.driver").
use Rattle.std.specs.Prelude.{Bool, ◌||◌, if◌then◌else◌, List, [], codes, Option, Some, None}
use Rattle.std.specs.Option.{option_and_then}
use Rattle.std.specs.Str.{bytes_eq}
use Rattle.attr_rules.specs.Deciding.{attribute_of}
use Rattle.attr_rules.specs.Rules.{RuleFile}
use Rattle.attr_rules.specs.declared.attribute.MergeAttr.{MergeAttr}
use Rattle.attr_rules.specs.declared.attribute.MergeAttr.TheVariants.{Unspecified, Set, Unset, Named}
use Rattle.config_text.specs.Lookups.{last_value}
use Rattle.config_text.specs.declared.config.Setting.{Setting}
use Rattle.seq_base.specs.Words.{Name, Path, Text}

-- the name of the driver, by the attribute `merge`
abbrev pub driver_name : List Setting → MergeAttr → Option Name
driver_name settings Unspecified = last_value (codes "merge") [] (codes "default") settings
driver_name settings Set = None
driver_name settings Unset = None
driver_name settings (Named name) = Some name

-- Git's own drivers, of which none is run
abbrev pub is_built_in : Name → Bool
is_built_in name = bytes_eq name (codes "text") || bytes_eq name (codes "binary") || bytes_eq name (codes "union")

-- the template of the command line of that driver
abbrev pub template_named : List Setting → Name → Option Text
template_named settings name = if is_built_in name then None else last_value (codes "merge") name (codes "driver") settings

-- that of a path's driver, if it has one that is run
abbrev pub template_of : List Setting → MergeAttr → Option Text
template_of settings attribute = option_and_then (template_named settings) (driver_name settings attribute)

-- that of a path under rule files, the strongest first
unfoldable pub driver_of : List Setting → List RuleFile → Path → Option Text
driver_of settings files path = template_of settings (attribute_of files path)
