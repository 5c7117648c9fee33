use Rattle.acl_names.specs.Directory.{uid_of}
use Rattle.acl_names.proofs.NamesLemmas.{named_front}
use Rattle.acl_names.proofs.directory.resolve.user_in_front.Goals as goal

pub returns : goal.returns
returns c =
    named_front (uid_of c.args.directory.now) c.args.text.now c.in_ok-name.name.now c.in_ok-uid.uid c.in_ok-name.rest.now
    c.in_ok-name.ensures.parts c.in_ok-uid.ensures.shaped c.in_ok-uid.ensures.value
