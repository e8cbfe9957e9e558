use Rattle.file_model.proofs.OneFile.{one_pages, one_file, one_front, one_number, prefix_of_file, nothing_is_prefix}
use Rattle.file_model.proofs.CompleteFiles.{pages_complete}
use Rattle.file_model.proofs.PagesExist.{pages_exist}
use Rattle.file_model.proofs.PlacedPages.{pages_placed}
use Rattle.file_model.proofs.SealedPages.{next_sealed}
use Rattle.file_model.proofs.WholeFiles.{file_is_whole}
use Rattle.file_model.proofs.prefixes.prefix_laws.Goals as goal

pub returns-clause-exist : goal.returns-clause-exist
returns-clause-exist c = pages_exist

pub returns-clause-pages : goal.returns-clause-pages
returns-clause-pages c = one_pages

pub returns-clause-placed : goal.returns-clause-placed
returns-clause-placed c = pages_placed

pub returns-clause-whole : goal.returns-clause-whole
returns-clause-whole c = file_is_whole

pub returns-clause-one : goal.returns-clause-one
returns-clause-one c = one_file

pub returns-clause-complete : goal.returns-clause-complete
returns-clause-complete c = pages_complete

pub returns-clause-front : goal.returns-clause-front
returns-clause-front c = one_front

pub returns-clause-number : goal.returns-clause-number
returns-clause-number c = one_number

pub returns-clause-file : goal.returns-clause-file
returns-clause-file c = λ params fits pages are. prefix_of_file params pages are (pages_placed params fits pages are).0

pub returns-clause-nothing : goal.returns-clause-nothing
returns-clause-nothing c = λ params fits. let (pages, are) = pages_exist params fits in nothing_is_prefix params pages are

pub returns-clause-sealing : goal.returns-clause-sealing
returns-clause-sealing c = next_sealed
