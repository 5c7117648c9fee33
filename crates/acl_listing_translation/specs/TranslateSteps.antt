-- Private steps of `translate`, which no public clause cites.
use Rattle.acl_people.specs.Host.{names_of_host}
use Rattle.acl_listing_translation.specs.Translated.{Translating}
use Rattle.acl_listing_translation.specs.declared.reporter.TranslateReporter.{TranslateReporter}

abbrev pub translating_of : TranslateReporter → Translating
translating_of reporter = record {
  names = names_of_host reporter.host.now;
  form = reporter.form;
  attributes = reporter.attributes;
  pairs = reporter.pairs;
}
