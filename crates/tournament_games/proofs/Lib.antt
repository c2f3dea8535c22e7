mod Starts
mod Steps
mod Waves
mod Runs
mod EndTexts
mod Heads
