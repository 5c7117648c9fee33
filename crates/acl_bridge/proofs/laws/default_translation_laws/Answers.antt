use Rattle.acl_bridge.proofs.DefaultTranslation.{inherited_by_file, inherited_by_directory}
use Rattle.acl_bridge.proofs.laws.default_translation_laws.Goals as goal

pub returns-clause-file : goal.returns-clause-file
returns-clause-file c = inherited_by_file

pub returns-clause-directory : goal.returns-clause-directory
returns-clause-directory c = inherited_by_directory
