use Rattle.page_file.proofs.Reading.{sealed_unique, bad_page_unique, not_both, file_reads, suits_count, suits_params, only_settled}
use Rattle.page_file.proofs.laws.reading_laws.Goals as goal

pub returns : goal.returns
returns c = record {
  one = sealed_unique;
  one_bad = bad_page_unique;
  not_both = not_both;
  file = file_reads;
  count = suits_count;
  params = suits_params;
  only = only_settled;
}
