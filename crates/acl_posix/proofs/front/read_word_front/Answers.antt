use Rattle.std.proofs.Common.{codes, refl}
use Rattle.acl_names.proofs.Fields.{tested_field}
use Rattle.acl_posix.proofs.front.read_word_front.Goals as goal

pub returns-in-Some : goal.returns-in-Some
returns-in-Some c = record { written = codes "user"; cut = c.in-Some.ensures; field = tested_field (codes "user") refl; says = refl }

pub returns-in-Some-after_prefix : goal.returns-in-Some-after_prefix
returns-in-Some-after_prefix c = record { written = codes "group"; cut = c.in-Some-after_prefix.ensures; field = tested_field (codes "group") refl; says = refl }

pub returns-in-Some-after_prefix-2 : goal.returns-in-Some-after_prefix-2
returns-in-Some-after_prefix-2 c = record { written = codes "mask"; cut = c.in-Some-after_prefix-2.ensures; field = tested_field (codes "mask") refl; says = refl }

pub returns-in-Some-after_prefix-3 : goal.returns-in-Some-after_prefix-3
returns-in-Some-after_prefix-3 c = record { written = codes "other"; cut = c.in-Some-after_prefix-3.ensures; field = tested_field (codes "other") refl; says = refl }

pub returns-in-Some-after_prefix-4 : goal.returns-in-Some-after_prefix-4
returns-in-Some-after_prefix-4 c = record { written = codes "u"; cut = c.in-Some-after_prefix-4.ensures; field = tested_field (codes "u") refl; says = refl }

pub returns-in-Some-after_prefix-5 : goal.returns-in-Some-after_prefix-5
returns-in-Some-after_prefix-5 c = record { written = codes "g"; cut = c.in-Some-after_prefix-5.ensures; field = tested_field (codes "g") refl; says = refl }

pub returns-in-Some-after_prefix-6 : goal.returns-in-Some-after_prefix-6
returns-in-Some-after_prefix-6 c = record { written = codes "m"; cut = c.in-Some-after_prefix-6.ensures; field = tested_field (codes "m") refl; says = refl }

pub returns-in-Some-after_prefix-7 : goal.returns-in-Some-after_prefix-7
returns-in-Some-after_prefix-7 c = record { written = codes "o"; cut = c.in-Some-after_prefix-7.ensures; field = tested_field (codes "o") refl; says = refl }
