use Rattle.std.proofs.Common.{◌≡◌, length}
use Rattle.acl_forms.specs.Forms.{last_or}
use Rattle.acl_forms.proofs.form.last_of.Given as goal

-- the last of all is the last from here on
abbrev pub invariant-loop-field : goal.invariant-loop-field
invariant-loop-field l = last_or l.fn.first l.fn.fields ≡ last_or l.last l.fields

abbrev pub decreases-loop-field : goal.decreases-loop-field
decreases-loop-field l = length l.fields
