use Rattle.lt_merge.proofs.ImageLaws as laws
use Rattle.lt_merge.proofs.laws.facets_have_one_image.Goals as goal

pub returns-clause-images : goal.returns-clause-images
returns-clause-images c = laws.facets_have_images

pub returns-clause-one : goal.returns-clause-one
returns-clause-one c = laws.facets_have_one_image

pub returns-clause-across : goal.returns-clause-across
returns-clause-across c = laws.crossings_go_to_images
