use Rattle.std.proofs.Common.{◌≡◌, drop}
use Rattle.toml.specs.View.{items_view}
use Rattle.acl_setup.specs.SetupTable.{texts_in}
use Rattle.acl_setup.specs.Shown.{texts_shown}
use Rattle.acl_setup.proofs.SetupLemmas.{texts_after}
use Rattle.acl_setup.proofs.value.read_texts.Given as goal

-- the texts so far, and those of the values left, are those of all
abbrev pub invariant-loop-value : goal.invariant-loop-value
invariant-loop-value l =
    texts_after (texts_shown l.texts) (items_view (drop l.value-index l.values)) ≡ texts_in (items_view l.values)
