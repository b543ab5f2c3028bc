mod Fields
mod Plans
mod Steps
