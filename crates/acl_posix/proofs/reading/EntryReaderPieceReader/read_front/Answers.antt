use Rattle.acl_posix.proofs.FrontLemmas.{front_is}
use Rattle.acl_posix.specs.Perms.{bits_of}
use Rattle.acl_posix.proofs.reading.EntryReaderPieceReader.read_front.Goals as goal

pub returns : goal.returns
returns g c =
    front_is (g.N.ResolveNames.names c.args.self.now.names.now) c.args.text.now c.in-Some.behind_word.now c.in-Some-read_tag_front.behind_tag.now c.in-Some-read_perms_front.rest.now
    c.in-Some.word c.in-Some-read_tag_front.tag (bits_of c.in-Some-read_perms_front.perms)
    c.in-Some.ensures c.in-Some-read_tag_front.ensures c.in-Some-read_perms_front.ensures.begins
