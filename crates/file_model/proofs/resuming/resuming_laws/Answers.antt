use Rattle.file_model.proofs.Keeping.{one_resumed, resumed_pages}
use Rattle.file_model.proofs.SuitingRows.{going_on_unbroken, going_on_forward, going_on_accepted}
use Rattle.file_model.proofs.KeptStay.{beside_one, kept_page}
use Rattle.file_model.proofs.SealedStay.{our_rows, our_pages_stay}
use Rattle.file_model.proofs.ResumedPages.{resumed_exist, resumed_placed}
use Rattle.file_model.proofs.resuming.resuming_laws.Goals as goal

pub returns-clause-one : goal.returns-clause-one
returns-clause-one c = one_resumed

pub returns-clause-first : goal.returns-clause-first
returns-clause-first c = resumed_pages

pub returns-clause-unbroken : goal.returns-clause-unbroken
returns-clause-unbroken c = going_on_unbroken

pub returns-clause-forward : goal.returns-clause-forward
returns-clause-forward c = going_on_forward

pub returns-clause-accepted : goal.returns-clause-accepted
returns-clause-accepted c = going_on_accepted

pub returns-clause-beside : goal.returns-clause-beside
returns-clause-beside c = beside_one

pub returns-clause-page : goal.returns-clause-page
returns-clause-page c = kept_page

pub returns-clause-kept : goal.returns-clause-kept
returns-clause-kept c = our_rows

pub returns-clause-stay : goal.returns-clause-stay
returns-clause-stay c = our_pages_stay

pub returns-clause-exist : goal.returns-clause-exist
returns-clause-exist c = resumed_exist

pub returns-clause-placed : goal.returns-clause-placed
returns-clause-placed c = resumed_placed
