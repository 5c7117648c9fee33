use Rattle.acl_queries.proofs.ExplanationLemmas.{classes_decide, first_speakers_decide, other_entries_dont_count, silent_entries_dont_count, later_entries_dont_count}
use Rattle.acl_queries.proofs.laws.explanation_laws.Goals as goal

pub returns-clause-classes : goal.returns-clause-classes
returns-clause-classes c = classes_decide

pub returns-clause-others : goal.returns-clause-others
returns-clause-others c = other_entries_dont_count

pub returns-clause-speakers : goal.returns-clause-speakers
returns-clause-speakers c = first_speakers_decide

pub returns-clause-silent : goal.returns-clause-silent
returns-clause-silent c = silent_entries_dont_count

pub returns-clause-later : goal.returns-clause-later
returns-clause-later c = later_entries_dont_count
