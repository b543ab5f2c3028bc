mod Outcomes
mod TakeSteps
mod ReadSteps
mod GoSteps
