use Rattle.plan.proofs.Fitting.{fits_is_place, fits_is_channel, fits_products}
use Rattle.plan.proofs.laws.channels_that_fit.Goals as goal

pub returns-clause-place : goal.returns-clause-place
returns-clause-place c = fits_is_place

pub returns-clause-channel : goal.returns-clause-channel
returns-clause-channel c = fits_is_channel

pub returns-clause-products : goal.returns-clause-products
returns-clause-products c = fits_products
