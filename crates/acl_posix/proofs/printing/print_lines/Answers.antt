use Rattle.std.proofs.Common.{option_map}
use Rattle.acl_posix.specs.Perms.{bits_of}
use Rattle.acl_posix.proofs.RoundTrip.{text_spells}
use Rattle.acl_posix.proofs.printing.print_lines.Goals as goal

pub returns-clause-read_again : goal.returns-clause-read_again
returns-clause-read_again c = text_spells c.args.directory.now (option_map bits_of c.args.mask) c.args.entries.now c.names_read_back.ensures c.put_lines.ensures.have_ids
