-- Which rule of access control lists entries break (1003.1e draft 17, section 23).
use Rattle.std.specs.Prelude.{Bool, not, List, if◌then◌else◌, ℕ, codes}
use Rattle.std.specs.List.{list_any}
use Rattle.acl_posix.specs.Entry.{EntryValue, same_tag}
use Rattle.acl_posix.specs.declared.acl.Invalid.{Invalid}
use Rattle.acl_posix.specs.declared.acl.Invalid.TheVariants.{Missing, Repeated}
use Rattle.acl_posix.specs.declared.entry.Tag.{Tag}
use Rattle.acl_posix.specs.declared.entry.Tag.TheVariants.{UserObj, GroupObj}
use Rattle.acl_listings.specs.declared.rule.Rule.{Rule}
use Rattle.acl_listings.specs.declared.rule.Rule.TheVariants.{NoOwner, NoGroup, NoOther, Twice}
use Rattle.acl_listings.specs.declared.rule.Rule.TheVariants.{NoMask}

-- none of the entries has the tag
abbrev pub lacks : Tag → List EntryValue → Bool
lacks tag entries = not (list_any (λ entry. same_tag entry.tag tag) entries)

-- the first that is missing of the three entries that every list must have
abbrev pub missing_of : List EntryValue → Rule
missing_of entries =
    if lacks UserObj entries then NoOwner else if lacks GroupObj entries then NoGroup else NoOther

-- the rule that entries break if they are refused for this
abbrev pub rule_of : List EntryValue → Invalid → Rule
rule_of entries Missing = missing_of entries
rule_of entries Repeated = Twice
rule_of entries _ = NoMask

abbrev pub rule_word : Rule → List ℕ
rule_word NoOwner = codes "no-owner"
rule_word NoGroup = codes "no-group"
rule_word NoOther = codes "no-other"
rule_word Twice = codes "twice"
rule_word NoMask = codes "no-mask"
