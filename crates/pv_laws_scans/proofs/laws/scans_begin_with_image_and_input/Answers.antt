use Rattle.pv_laws_scans.proofs.Images.{input_of-begin, image_of-begin, image_of-carried, input_place, image_place}
use Rattle.pv_laws_scans.proofs.laws.scans_begin_with_image_and_input.Goals as goal

pub returns-clause-input_place : goal.returns-clause-input_place
returns-clause-input_place c = input_place

pub returns-clause-image_place : goal.returns-clause-image_place
returns-clause-image_place c = image_place

pub returns-clause-input : goal.returns-clause-input
returns-clause-input c = input_of-begin

pub returns-clause-image : goal.returns-clause-image
returns-clause-image c = image_of-begin

pub returns-clause-carried : goal.returns-clause-carried
returns-clause-carried c = λ source beginning end input. image_of-carried source.cells beginning end input
