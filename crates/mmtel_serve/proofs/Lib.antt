mod Turning
mod Reading
mod Delivery
mod Noninterference
mod ServeEffects
