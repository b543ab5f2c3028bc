mod Leaves
mod Gathering
mod Validating
